use Rattle.std.proofs.Common.{refl, subst, sym, Bool, []}
use Rattle.model_answer.specs.Answer.{IsAskedPart}
use Rattle.model_answer.proofs.Grown.{adds_nothing}
use Rattle.model_answer.proofs.choosing.put_asked.Goals as goal

pub returns-then-not-order : goal.returns-then-not-order
returns-then-not-order g c = adds_nothing c.args.text.now.items
    (subst (λ (o : Bool). IsAskedPart c.args.trace.now c.args.verdicts.now c.args.weak.now c.args.fences o []) (sym c.if-not-order.true) refl)
