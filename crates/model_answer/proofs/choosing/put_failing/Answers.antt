use Rattle.std.proofs.Common.{◌≡◌, ◌∙◌, [], ap, refl, subst, sym}
use Rattle.std.specs.Prelude.{Option, None}
use Rattle.model_answer.specs.declared.judged.Obeys.{Obeys}
use Rattle.model_answer.specs.declared.model.AskedModel.{AskedModel}
use Rattle.model_answer.specs.Answer.{IsCyclePart, obeys_of, weakest_told}
use Rattle.model_answer.specs.Weak.{weak_answer_of}
use Rattle.model_answer.proofs.Grown.{adds_nothing}
use Rattle.model_answer.proofs.choosing.put_failing.Goals as goal

pub returns-in-None : goal.returns-in-None
returns-in-None g c =
    let obeys : Obeys = obeys_of c.args.verdicts.now in
    let chosen : c.weakest_told.result ≡ weakest_told obeys (weak_answer_of c.args.weak.now) =
    c.weakest_told.ensures ∙ (ap (λ (o : Obeys). weakest_told o c.answer.result) c.obeys.ensures.value ∙ ap (weakest_told obeys) c.answer.ensures) in
    let none : weakest_told obeys (weak_answer_of c.args.weak.now) ≡ None = sym chosen ∙ c.in-None.is in
    adds_nothing c.args.text.now.items
    (subst (λ (m : Option AskedModel). IsCyclePart c.args.trace.now c.args.verdicts.now c.args.weak.now m []) (sym none) refl)
