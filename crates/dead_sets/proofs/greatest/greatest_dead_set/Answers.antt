use Rattle.std.proofs.Common.{ℕ, List, length, subst}
use Rattle.rising.specs.declared.edge.Edge.{Edge}
use Rattle.network_adaptive.proofs.Circles.{down_from}
use Rattle.dead_sets.specs.Peeling.{IsPeeled}
use Rattle.dead_sets.specs.Greatest.{IsFoundBy}
use Rattle.dead_sets.proofs.Out.{is_dead_set}
use Rattle.dead_sets.proofs.greatest.greatest_dead_set.Goals as goal

pub returns : goal.returns
returns g c =
    let a = c.args in
    let at : List ℕ = c.in_ok-cases.cases.at.items in
    let edges : List Edge = c.in_ok-cases.cases.ways_out.items in
    let left : List ℕ = c.in_ok-peeled.peeled.left.items in
    let order : List ℕ = c.in_ok-peeled.peeled.order.items in
    is_dead_set a.kinds.now a.joins.now a.replies.now a.ways a.choices.now c.deref.result.now
    (down_from c.deref.result.now c.in_ok-none.none.items (length a.kinds.now) c.deref.ensures.value (c.in_ok-none.ensures.items_if_clones_equal (λ y h. h)))
    c.requires.replies at edges left order c.in_ok-cases.ensures.within c.in_ok-cases.ensures.all
    (subst (λ (v : List ℕ). IsPeeled (length a.kinds.now) v edges left order) c.deref-2.ensures.value
    (subst (λ (v : List Edge). IsPeeled (length a.kinds.now) c.deref-2.result.now v left order) c.deref-3.ensures.value c.in_ok-peeled.ensures))
    c.in_ok-found_by.field-0
    (subst (λ (v : List ℕ). IsFoundBy {A = g.row.A.Denot} v order c.in_ok-found_by.field-0) c.deref-4.ensures.value
    (subst (λ (v : List ℕ). IsFoundBy {A = g.row.A.Denot} c.deref-4.result.now v c.in_ok-found_by.field-0) c.deref-5.ensures.value c.in_ok-found_by.ensures))
