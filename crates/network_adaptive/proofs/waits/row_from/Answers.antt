use Rattle.std.proofs.Common.{◌≡◌, ◌+◌, ◌*◌, ◌∙◌, ◌<◌, ℕ, true, false, sym, ap, subst, arith}
use Rattle.std.specs.Prelude.{slice_index}
use Rattle.network_judge.specs.Marks.{is_marked_at}
use Rattle.network_adaptive.proofs.Awaited.{row_put, row_skip, row_end}
use Rattle.network_adaptive.proofs.waits.row_from.Goals as goal

pub loop-k-preserved-then-y-count : goal.loop-k-preserved-then-y-count
loop-k-preserved-then-y-count g c =
    let l = c.loop-k in
    let start : ℕ = c.args.base + c.args.x * c.args.ways in
    let y : ℕ = slice_index c.args.choices.now (c.args.base + c.cell.result) in
    let value = c.cell.ensures.value in
    let place : start + l.k ≡ c.args.base + c.cell.result = omega arith in
    let same : slice_index c.args.choices.now (start + l.k) ≡ y = ap (slice_index c.args.choices.now) place in
    row_skip c.args.count c.args.choices.now start c.args.marks.now c.args.from l.k (l.k + 1) c.args.edges.now.items l.edges.items (omega arith)
    (λ low up. (let high = c.if-y-count.true in let less : y < c.args.count = subst (λ z. z < c.args.count) same low in omega arith)) l.invariant

pub loop-k-preserved-then-not-marks-y : goal.loop-k-preserved-then-not-marks-y
loop-k-preserved-then-not-marks-y g c =
    let l = c.loop-k in
    let start : ℕ = c.args.base + c.args.x * c.args.ways in
    let y : ℕ = slice_index c.args.choices.now (c.args.base + c.cell.result) in
    let value = c.cell.ensures.value in
    let place : start + l.k ≡ c.args.base + c.cell.result = omega arith in
    let same : slice_index c.args.choices.now (start + l.k) ≡ y = ap (slice_index c.args.choices.now) place in
    row_skip c.args.count c.args.choices.now start c.args.marks.now c.args.from l.k (l.k + 1) c.args.edges.now.items l.edges.items (omega arith)
    (λ low up. (let bad : true ≡ false = sym up ∙ (ap (is_marked_at c.args.marks.now) same ∙ c.if-not-marks-y.true) in cc)) l.invariant

pub loop-k-preserved : goal.loop-k-preserved
loop-k-preserved g c =
    let l = c.loop-k in
    let start : ℕ = c.args.base + c.args.x * c.args.ways in
    let y : ℕ = slice_index c.args.choices.now (c.args.base + c.cell.result) in
    let value = c.cell.ensures.value in
    let place : start + l.k ≡ c.args.base + c.cell.result = omega arith in
    let same : slice_index c.args.choices.now (start + l.k) ≡ y = ap (slice_index c.args.choices.now) place in
    row_put c.args.count c.args.choices.now start c.args.marks.now c.args.from l.k (l.k + 1) c.args.edges.now.items l.edges.items _ y (omega arith) same
    c.if-y-count.false c.if-not-marks-y.false c.in_ok-push.ensures.items l.invariant

pub returns : goal.returns
returns g c = row_end c.args.count c.args.choices.now (c.args.base + c.args.x * c.args.ways) c.args.marks.now c.args.from c.args.ways c.loop-k.k
    c.args.edges.now.items c.loop-k.edges.items (omega arith) c.loop-k.invariant
