use Rattle.std.proofs.Common.{◌≡◌, ◌∙◌, ◌++◌, ap, sym, subst, List, ℕ}
use Rattle.model_answer.specs.Answer.{order_heading}
use Rattle.model_answer.specs.Texts.{turns_text}
use Rattle.model_answer.proofs.Grown.{nothing_more, two_more}
use Rattle.model_replies.specs.Printed.{order_text}
use Rattle.model_replies.proofs.printing.put_order_of.Goals as goal

pub returns-in_ok-put_order-in-Obeys : goal.returns-in_ok-put_order-in-Obeys
returns-in_ok-put_order-in-Obeys g c =
    subst (λ v. c.put_order.new.text.items ≡ c.args.text.now.items ++ order_text c.args.openings c.args.steps.now c.args.model v) (sym c.in-Obeys.is)
    (two_more c.args.text.now.items (order_heading c.args.model)
    (turns_text c.args.openings c.args.steps.now c.in-Obeys.explanation.turns.items) c.put_heading.new.text.items c.put_order.new.text.items
    (c.in_ok-put_heading-in-Obeys.ensures)
    (c.in_ok-put_order-in-Obeys.ensures
    ∙ ap (λ (t : List ℕ). c.put_heading.new.text.items ++ turns_text c.args.openings c.args.steps.now t) c.deref.ensures.value))

pub returns-in-Breaks : goal.returns-in-Breaks
returns-in-Breaks g c =
    subst (λ v. c.args.text.now.items ≡ c.args.text.now.items ++ order_text c.args.openings c.args.steps.now c.args.model v) (sym c.in-Breaks.is)
    (sym (nothing_more c.args.text.now.items))

pub returns-in-Undecided : goal.returns-in-Undecided
returns-in-Undecided g c =
    subst (λ v. c.args.text.now.items ≡ c.args.text.now.items ++ order_text c.args.openings c.args.steps.now c.args.model v) (sym c.in-Undecided.is)
    (sym (nothing_more c.args.text.now.items))
