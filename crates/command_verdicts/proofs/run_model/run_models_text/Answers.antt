-- The answer's text was taken, or a beginning of it; or there is none.
use Rattle.std.proofs.Common.{refl}
use Rattle.std.proofs.lemmas.Result.{err_from_is_err_and}
use Rattle.program_fault.specs.Done.{output}
use Rattle.command_verdicts.specs.declared.model.Modelled.TheVariants.{Obeys}
use Rattle.command_verdicts.proofs.RunModels.{none_printed}
use Rattle.command_verdicts.proofs.run_model.run_models_text.Goals as goal

pub returns-in_err-put_all-in-Ok : goal.returns-in_err-put_all-in-Ok
returns-in_err-put_all-in-Ok g c =
    let p = err_from_is_err_and c.from_residual.result c.from_residual.ensures.1 in
    rw (p.1, p.2) (
      Obeys c.in-Ok.answer.obeys c.in-Ok.answer.weak,
      (
        c.deref.result.now,
        (c.in-Ok.answer, c.in-Ok.ensures.answer, refl, refl, c.deref.ensures.value),
        record { bytes = c.in_err-put_all-in-Ok.ensures.err; failed = c.in_err-put_all-in-Ok.ensures.failed },
      ),
    )

pub returns-in_ok-put_all-in-Ok : goal.returns-in_ok-put_all-in-Ok
returns-in_ok-put_all-in-Ok g c = (
  c.deref.result.now,
  (c.in-Ok.answer, c.in-Ok.ensures.answer, refl, refl, c.deref.ensures.value),
  record { bytes = c.in_ok-put_all-in-Ok.ensures.ok; quiet = c.in_ok-put_all-in-Ok.ensures.quiet },
)

pub returns-in-Err : goal.returns-in-Err
returns-in-Err g c = rw c.unanswered.ensures (none_printed g.row.A.Denot c.args.machine.now c.args.scripts.now c.args.report.now c.args.asked
    (output (g.W.Out.taken c.args.out.now) (g.W.Out.failures c.args.out.now)) c.in-Err.why c.in-Err.ensures.none)
