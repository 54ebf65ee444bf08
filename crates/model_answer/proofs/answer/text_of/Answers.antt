use Rattle.std.proofs.Common.{◌≡◌, ◌++◌, ◌∙◌, ap}
use Rattle.model_answer.specs.declared.judged.Obeys.{Obeys}
use Rattle.model_answer.specs.declared.weak.WeakAnswer.{WeakAnswer}
use Rattle.model_answer.specs.Answer.{obeys_of}
use Rattle.model_answer.specs.Texts.{obeys_text}
use Rattle.model_answer.specs.Weak.{weak_answer_of}
use Rattle.model_answer.proofs.answer.text_of.Goals as goal

pub returns : goal.returns
returns g c =
    let cycle = c.in_ok-put_failing.ensures in
    let order = c.in_ok-put_asked.ensures in
    let fences = c.args.options.fences in
    let first : c.put_obeys.new.text.items ≡ obeys_text fences (obeys_of c.args.verdicts.now) (weak_answer_of c.args.weak.now) =
    c.in_ok-put_obeys.ensures ∙ (ap (λ t. t ++ obeys_text fences c.obeys.result c.answer.result) c.new-text.ensures.items
    ∙ (ap (λ (o : Obeys). obeys_text fences o c.answer.result) c.obeys.ensures.value
    ∙ ap (λ (w : WeakAnswer). obeys_text fences (obeys_of c.args.verdicts.now) w) c.answer.ensures)) in
    record {
      cycle = cycle.part;
      order = order.part;
      cycle_is = cycle.is;
      order_is = order.is;
      is = order.grown ∙ ap (λ t. t ++ order.part) (cycle.grown ∙ ap (λ t. t ++ cycle.part) first);
    }
