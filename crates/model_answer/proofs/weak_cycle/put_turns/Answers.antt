use Rattle.std.proofs.Common.{◌++◌, ◌∙◌, ap, List}
use Rattle.std.specs.Prelude.{codes}
use Rattle.model_text.specs.declared.logged.Logged.{Logged}
use Rattle.model_answer.specs.Texts.{turns_text}
use Rattle.model_answer.proofs.Grown.{two_more}
use Rattle.model_answer.proofs.weak_cycle.put_turns.Goals as goal

pub returns : goal.returns
returns g c =
    two_more c.args.text.now.items (codes "an order of rvwmo:\n")
    (turns_text c.args.trace.now.openings c.args.trace.now.steps.items c.args.turns.now) c.put.new.text.items c.put_order.new.text.items
    c.in_ok-put.ensures
    (c.in_ok-put_order.ensures
    ∙ ap (λ (xs : List Logged). c.put.new.text.items ++ turns_text c.args.trace.now.openings xs c.args.turns.now) c.deref.ensures.value)
