use Rattle.std.proofs.Common.{ℕ, List, sym, ◌∙◌, subst}
use Rattle.std.proofs.lemmas.Option.{MatchOption-at_some}
use Rattle.trace_guess.specs.Explained.{AreHeights}
use Rattle.trace_guess.proofs.Explaining.{order_explains}
use Rattle.trace_guess.proofs.explained.is_order.Goals as goal

pub returns : goal.returns
returns g c = λ yes.
    let told = MatchOption-at_some {o = c.in_ok-told.field-0} _ _ c.in-Some.told c.in-Some.is c.in_ok-told.ensures in
    let heights = MatchOption-at_some {o = c.in_ok-heights.field-0} _ _ c.in-Some-2.heights c.in-Some-2.is
    c.in_ok-heights.ensures in
    order_explains c.args.words.now c.args.events.now c.args.issues.now c.deref-2.result.now c.args.places.now
    c.args.order.now c.deref.result.now c.requires.trace c.requires.issued (c.deref.ensures.value ∙ told)
    (subst (λ (hs : List ℕ). AreHeights c.args.events.now c.args.order.now c.deref.result.now hs)
    (sym c.deref-2.ensures.value) heights.0)
    heights.1 (c.are_behind.ensures yes)
