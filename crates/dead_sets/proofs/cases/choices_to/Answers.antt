use Rattle.std.proofs.Common.{◌≡◌, ◌+◌, ◌*◌, ◌≤◌, sym, subst, arith}
use Rattle.std.specs.Prelude.{slice_index}
use Rattle.network_adaptive.specs.Flags.{HasPut}
use Rattle.dead_sets.proofs.Gathered.{WaysSo, choice_at, ways_begin, ways_put, ways_skip}
use Rattle.dead_sets.proofs.cases.choices_to.Goals as goal

pub loop-k-init : goal.loop-k-init
loop-k-init g c = ways_begin c.args.count c.args.choices.now (c.args.base + c.args.x * c.args.ways) c.args.case c.args.edges.now.items

pub loop-k-preserved-then-y-count : goal.loop-k-preserved-then-y-count
loop-k-preserved-then-y-count g c =
    let a = c.args in
    let l = c.loop-k in
    let high : a.count ≤ slice_index a.choices.now (a.base + c.cell.result) = c.if-y-count.true in
    ways_skip a.count a.choices.now (a.base + a.x * a.ways) a.case l.k (l.k + 1) a.edges.now.items l.edges.items (omega arith)
    (subst (λ z. a.count ≤ z) (sym (choice_at a.choices.now a.base a.x a.ways l.k c.cell.result c.cell.ensures.value)) high) l.invariant

pub loop-k-preserved : goal.loop-k-preserved
loop-k-preserved g c =
    let a = c.args in
    let l = c.loop-k in
    ways_put a.count a.choices.now (a.base + a.x * a.ways) a.case l.k (l.k + 1) a.edges.now.items l.edges.items _
    (slice_index a.choices.now (a.base + c.cell.result)) (omega arith)
    (choice_at a.choices.now a.base a.x a.ways l.k c.cell.result c.cell.ensures.value) c.if-y-count.false c.in_ok-push.ensures.items l.invariant

pub returns : goal.returns
returns g c =
    let a = c.args in
    let end : c.loop-k.k ≡ a.ways = omega arith in
    subst (λ z. HasPut (WaysSo a.count a.choices.now (a.base + a.x * a.ways) a.case z) a.edges.now.items c.loop-k.edges.items) end c.loop-k.invariant
