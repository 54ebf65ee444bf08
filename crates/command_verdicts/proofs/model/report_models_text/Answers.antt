-- Where the output failed, a beginning of the answer's text was taken.
use Rattle.std.proofs.Common.{◌∙◌, [], ap, refl}
use Rattle.std.proofs.lemmas.Result.{err_from_is_err_and}
use Rattle.model_answer.specs.declared.answer.NoAnswer.TheVariants.{Refused, Wrong}
use Rattle.report_model.specs.declared.answer.NoReportAnswer.TheVariants.{Unjudged}
use Rattle.report_model.specs.Answers.{HasNoRunAnswer}
use Rattle.program_fault.specs.Done.{output}
use Rattle.command_verdicts.specs.Modelled.{IsReportRefusal, IsReportModelled, RefusesEntry}
use Rattle.command_verdicts.specs.declared.model.Modelled.TheVariants.{WithoutFences}
use Rattle.command_verdicts.proofs.NoAnswers.{none_for}
use Rattle.command_verdicts.proofs.Refusals.{none_taken, refused_by}
use Rattle.command_verdicts.proofs.model.report_models_text.Goals as goal

pub returns-in_err-put_all-in-Ok : goal.returns-in_err-put_all-in-Ok
returns-in_err-put_all-in-Ok g c =
    let p = err_from_is_err_and c.from_residual.result c.from_residual.ensures.1 in
    rw (p.1, p.2) (
      WithoutFences c.in-Ok.answer.obeys c.in-Ok.answer.weak,
      (
        c.deref.result.now,
        (c.in-Ok.answer, c.in-Ok.ensures.answer, refl, refl, c.deref.ensures.value),
        record { bytes = c.in_err-put_all-in-Ok.ensures.err; failed = c.in_err-put_all-in-Ok.ensures.failed },
      ),
    )

pub returns-in_ok-put_all-in-Ok : goal.returns-in_ok-put_all-in-Ok
returns-in_ok-put_all-in-Ok g c = (
  c.deref.result.now,
  (c.in-Ok.answer, c.in-Ok.ensures.answer, refl, refl, c.deref.ensures.value),
  record { bytes = c.in_ok-put_all-in-Ok.ensures.ok; quiet = c.in_ok-put_all-in-Ok.ensures.quiet },
)

pub returns-in-Err-Unjudged-Refused : goal.returns-in-Err-Unjudged-Refused
returns-in-Err-Unjudged-Refused g c =
    let none : HasNoRunAnswer c.args.report.now (Unjudged (Refused c.in-Err-Unjudged-Refused.refusal)) =
    none_for c.args.report.now _ (Unjudged (Refused c.in-Err-Unjudged-Refused.refusal))
    (c.in-Err-Unjudged-Refused.field-0-is ∙ ap Unjudged c.in-Err-Unjudged-Refused.field-0-0-is) c.in-Err-Unjudged-Refused.ensures.none in
    refused_by (IsReportModelled g.row.A.Denot c.args.report.now c.args.asked) (IsReportRefusal c.args.report.now)
    (output (g.W.Out.taken c.args.out.now) (g.W.Out.failures c.args.out.now)) c.from.result c.from-in-Err-Unjudged-Refused.result
    c.from-in-Err-Unjudged-Refused.ensures (RefusesEntry c.in-Err-Unjudged-Refused.refusal none c.from.ensures)

pub returns-in-Err-Unjudged-Wrong : goal.returns-in-Err-Unjudged-Wrong
returns-in-Err-Unjudged-Wrong g c =
    let none : HasNoRunAnswer c.args.report.now (Unjudged (Wrong c.in-Err-Unjudged-Wrong.wrong)) =
    none_for c.args.report.now _ (Unjudged (Wrong c.in-Err-Unjudged-Wrong.wrong))
    (c.in-Err-Unjudged-Wrong.field-0-is ∙ ap Unjudged c.in-Err-Unjudged-Wrong.field-0-0-is) c.in-Err-Unjudged-Wrong.ensures.none in
    ([], (none, refl), record { bytes = none_taken (g.W.Out.taken c.args.out.now); quiet = refl })
