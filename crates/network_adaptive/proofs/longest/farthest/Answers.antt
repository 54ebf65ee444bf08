use Rattle.std.proofs.Common.{◌≡◌, ◌-◌, ◌<◌, ◌∙◌, ℕ, List, length, sym, ap, subst, arith}
use Rattle.std.specs.Prelude.{slice_index}
use Rattle.std.proofs.lemmas.List.{get_or_read, length-replicate}
use Rattle.rising.specs.Graph.{Digraph}
use Rattle.network_adaptive.specs.Travel.{choice_graph, chosen_at}
use Rattle.network_adaptive.specs.Longest.{IsFarthest}
use Rattle.network_adaptive.proofs.Farthest.{AreFarSo, so_begin, so_end, far_low, far_step, far_pass}
use Rattle.network_adaptive.proofs.Travelled.{choices_within}
use Rattle.network_adaptive.proofs.longest.farthest.Goals as goal

pub loop-left-init : goal.loop-left-init
loop-left-init g c =
    let t = c.args.graph.now in
    let graph : Digraph = choice_graph t.kinds.now t.choices.now t.base t.ways t.seen.now in
    subst (λ z. AreFarSo graph (slice_index c.args.numbers.now) c.in_ok-far.far.items z) (sym c.requires.numbers.size)
    (so_begin graph c.args.numbers.now c.requires.numbers c.requires.rising (choices_within t.kinds.now t.choices.now t.base t.ways t.seen.now)
    c.in_ok-far.far.items
    (ap length (c.in_ok-far.ensures.items_if_clones_equal (λ y h. h)) ∙ (length-replicate (length c.args.numbers.now) 0 ∙ c.requires.numbers.size)))

pub index-x-requires : goal.index-x-requires
index-x-requires g c =
    let size = c.in_ok-order.ensures.size in
    let low = c.loop-left.invariant.bound in
    let all = c.requires.numbers.size in
    omega arith

pub far_from-requires-clause-low : goal.far_from-requires-clause-low
far_from-requires-clause-low g c =
    let t = c.args.graph.now in
    let graph : Digraph = choice_graph t.kinds.now t.choices.now t.base t.ways t.seen.now in
    let size = c.in_ok-order.ensures.size in
    let low = c.loop-left.invariant.bound in
    let all = c.requires.numbers.size in
    let read : c.index-x.result.now ≡ slice_index c.in_ok-order.order.items (c.loop-left.left - 1) =
    get_or_read c.in_ok-order.order.items (c.loop-left.left - 1) c.index-x.result.now (omega arith) c.index-x.ensures 0 in
    λ k end leads. subst (λ (v : List ℕ). slice_index v (chosen_at t.choices.now t.base t.ways c.index-x.result.now k) < length t.kinds.now)
    (sym c.deref.ensures.value)
    (far_low graph c.args.numbers.now c.requires.numbers c.requires.rising (choices_within t.kinds.now t.choices.now t.base t.ways t.seen.now)
    c.in_ok-order.order.items c.in_ok-order.ensures c.loop-left.far.items c.loop-left.left (c.loop-left.left - 1) c.index-x.result.now (omega arith) read
    c.loop-left.invariant (let size = c.loop-left.invariant.size in omega arith) k end leads)

pub loop-left-preserved-then-x-len : goal.loop-left-preserved-then-x-len
loop-left-preserved-then-x-len g c =
    let t = c.args.graph.now in
    let graph : Digraph = choice_graph t.kinds.now t.choices.now t.base t.ways t.seen.now in
    let size = c.in_ok-order.ensures.size in
    let low = c.loop-left.invariant.bound in
    let all = c.requires.numbers.size in
    let read : c.index-x.result.now ≡ slice_index c.in_ok-order.order.items (c.loop-left.left - 1) =
    get_or_read c.in_ok-order.order.items (c.loop-left.left - 1) c.index-x.result.now (omega arith) c.index-x.ensures 0 in
    far_step graph c.args.numbers.now c.requires.numbers c.requires.rising (choices_within t.kinds.now t.choices.now t.base t.ways t.seen.now)
    c.in_ok-order.order.items c.in_ok-order.ensures c.loop-left.far.items c.loop-left.left (c.loop-left.left - 1) c.index-x.result.now (omega arith) read
    c.loop-left.invariant c.far_from.result (let size = c.loop-left.invariant.size in omega arith)
    (subst (λ (v : List ℕ). IsFarthest graph (slice_index v) c.index-x.result.now c.far_from.result) c.deref.ensures.value c.far_from.ensures.farthest)

pub loop-left-preserved : goal.loop-left-preserved
loop-left-preserved g c =
    let t = c.args.graph.now in
    let graph : Digraph = choice_graph t.kinds.now t.choices.now t.base t.ways t.seen.now in
    let size = c.in_ok-order.ensures.size in
    let low = c.loop-left.invariant.bound in
    let all = c.requires.numbers.size in
    let read : c.index-x.result.now ≡ slice_index c.in_ok-order.order.items (c.loop-left.left - 1) =
    get_or_read c.in_ok-order.order.items (c.loop-left.left - 1) c.index-x.result.now (omega arith) c.index-x.ensures 0 in
    far_pass graph c.args.numbers.now c.requires.numbers c.requires.rising (choices_within t.kinds.now t.choices.now t.base t.ways t.seen.now)
    c.in_ok-order.order.items c.in_ok-order.ensures c.loop-left.far.items c.loop-left.left (c.loop-left.left - 1) c.index-x.result.now (omega arith) read
    c.loop-left.invariant (let size = c.loop-left.invariant.size in omega arith)

pub returns : goal.returns
returns g c =
    let t = c.args.graph.now in
    so_end (choice_graph t.kinds.now t.choices.now t.base t.ways t.seen.now) c.args.numbers.now c.requires.numbers c.requires.rising
    (choices_within t.kinds.now t.choices.now t.base t.ways t.seen.now) c.loop-left.far.items c.loop-left.left (omega arith) c.loop-left.invariant
