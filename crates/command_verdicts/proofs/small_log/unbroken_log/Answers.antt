-- Where the output failed, a beginning of the answer's text was taken.
use Rattle.std.proofs.Common.{refl, ◌∙◌, ap}
use Rattle.std.proofs.lemmas.Result.{err_from_is_err_and}
use Rattle.model_answer.specs.Answer.{weakest_told}
use Rattle.command_verdicts.specs.SmallLogs.{text_unless}
use Rattle.command_verdicts.specs.declared.model.Modelled.TheVariants.{Obeys}
use Rattle.command_verdicts.proofs.small_log.unbroken_log.Goals as goal

pub returns-in_err-put_all-in-Ok : goal.returns-in_err-put_all-in-Ok
returns-in_err-put_all-in-Ok g c =
    let p = err_from_is_err_and c.from_residual.result c.from_residual.ensures.1 in
    let told = c.text_unless.ensures ∙ (ap (λ m. text_unless m c.deref.result.now) c.weakest_told-broken.ensures
    ∙ ap (text_unless (weakest_told c.in-Ok.answer.obeys c.in-Ok.answer.weak)) c.deref.ensures.value) in
    rw (p.1, p.2) (
      Obeys c.in-Ok.answer.obeys c.in-Ok.answer.weak,
      (
        c.text_unless.result.now,
        (c.in-Ok.answer, c.in-Ok.ensures.answer, refl, refl, told),
        record { bytes = c.in_err-put_all-in-Ok.ensures.err; failed = c.in_err-put_all-in-Ok.ensures.failed },
      ),
    )

pub returns-in_ok-put_all-in-Ok : goal.returns-in_ok-put_all-in-Ok
returns-in_ok-put_all-in-Ok g c =
    let told = c.text_unless.ensures ∙ (ap (λ m. text_unless m c.deref.result.now) c.weakest_told-broken.ensures
    ∙ ap (text_unless (weakest_told c.in-Ok.answer.obeys c.in-Ok.answer.weak)) c.deref.ensures.value) in (
      c.text_unless.result.now,
      (c.in-Ok.answer, c.in-Ok.ensures.answer, refl, refl, told),
      record { bytes = c.in_ok-put_all-in-Ok.ensures.ok; quiet = c.in_ok-put_all-in-Ok.ensures.quiet },
    )
