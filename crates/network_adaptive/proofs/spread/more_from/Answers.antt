use Rattle.std.proofs.Common.{◌≡◌, ℕ, ◌+◌, ◌*◌, ◌∙◌, ap, arith}
use Rattle.std.specs.Prelude.{slice_index}
use Rattle.network_adaptive.proofs.Spreading.{raised_at, stayed_at}
use Rattle.network_adaptive.proofs.spread.more_from.Goals as goal

pub loop-k-preserved-then-seen-y : goal.loop-k-preserved-then-seen-y
loop-k-preserved-then-seen-y g c =
    let l = c.loop-k in
    let start : ℕ = c.args.base + c.args.x * c.args.ways in
    let y : ℕ = slice_index c.args.choices.now (c.args.base + c.cell.result) in
    let value = c.cell.ensures.value in
    let place : start + l.k ≡ c.args.base + c.cell.result = omega arith in
    stayed_at c.args.count c.args.choices.now start c.args.shut.now c.args.seen.now l.seen c.args.list.now.items l.list.items l.k y
    (ap (slice_index c.args.choices.now) place) c.if-y-count.false c.if-shut-y.false (l.invariant.size ∙ c.requires.size) l.invariant (l.k + 1) (omega arith)
    c.if-seen-y.true

pub loop-k-preserved : goal.loop-k-preserved
loop-k-preserved g c =
    let l = c.loop-k in
    let start : ℕ = c.args.base + c.args.x * c.args.ways in
    let y : ℕ = slice_index c.args.choices.now (c.args.base + c.cell.result) in
    let value = c.cell.ensures.value in
    let place : start + l.k ≡ c.args.base + c.cell.result = omega arith in
    raised_at c.args.count c.args.choices.now start c.args.shut.now c.args.seen.now l.seen c.args.list.now.items l.list.items l.k y
    (ap (slice_index c.args.choices.now) place) c.if-y-count.false c.if-shut-y.false (l.invariant.size ∙ c.requires.size) l.invariant (l.k + 1)
    _ (omega arith) c.in_ok-push.ensures.items c.if-seen-y.false
