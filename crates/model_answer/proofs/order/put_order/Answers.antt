use Rattle.std.proofs.Common.{◌≡◌, ◌<◌, ◌∙◌, ◌++◌, ap, arith, length, ℕ}
use Rattle.model_text.specs.Traces.{place_in}
use Rattle.model_text.proofs.Growing.{same_read}
use Rattle.model_answer.specs.Texts.{turn_line}
use Rattle.model_answer.proofs.Grown.{text_more}
use Rattle.model_answer.proofs.order.put_order.Goals as goal

pub loop-k-preserved : goal.loop-k-preserved
loop-k-preserved g c =
    let openings : ℕ = c.args.openings in
    let steps = c.args.steps.now in
    let k : ℕ = c.loop-k.k in
    let low : k < length c.in_ok-order.order.items = omega arith in
    let inside : k < length c.args.turns.now = omega (arith, c.in_ok-order.ensures.sized) in
    let is : c.index.result.now ≡ place_in c.args.turns.now k =
    c.index.ensures ∙ (same_read c.in_ok-order.order.items k c.index.result.now 0 low ∙ c.in_ok-order.ensures.each k inside) in
    text_more (λ (j : ℕ). turn_line openings steps (place_in c.args.turns.now j)) k c.args.text.now.items c.loop-k.text.items
    c.put_order_line.new.text.items
    (c.in_ok-put_order_line.ensures ∙ ap (λ (x : ℕ). c.loop-k.text.items ++ turn_line openings steps x) is) c.loop-k.invariant
