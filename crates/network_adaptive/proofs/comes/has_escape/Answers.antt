use Rattle.std.proofs.Common.{◌≡◌, ◌+◌, ◌*◌, ℕ, ap, arith}
use Rattle.std.specs.Prelude.{slice_index}
use Rattle.network_adaptive.proofs.Bare.{escapes_at, found, not_found, none_escapes}
use Rattle.network_adaptive.proofs.comes.has_escape.Goals as goal

pub returns-then-marks-y : goal.returns-then-marks-y
returns-then-marks-y c =
    let start : ℕ = c.args.base + c.args.x * c.args.ways in
    let y : ℕ = slice_index c.args.choices.now (c.args.base + c.cell.result) in
    let value = c.cell.ensures.value in
    let place : start + c.loop-k.k ≡ c.args.base + c.cell.result = omega arith in
    found c.args.count c.args.choices.now start c.args.ways c.args.marks.now y
    (escapes_at c.args.count c.args.choices.now start c.args.ways c.args.marks.now c.loop-k.k y (omega arith)
    (ap (slice_index c.args.choices.now) place) c.if-y-count.true c.if-marks-y.true)

pub returns : goal.returns
returns c =
    let start : ℕ = c.args.base + c.args.x * c.args.ways in
    not_found c.args.count c.args.choices.now start c.args.ways c.args.marks.now
    (none_escapes c.args.count c.args.choices.now start c.args.ways c.loop-k.k c.args.marks.now (omega arith) c.loop-k.invariant)
