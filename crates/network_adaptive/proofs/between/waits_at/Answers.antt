use Rattle.std.proofs.Common.{◌≡◌, ◌+◌, ◌*◌, ◌∙◌, ℕ, sym, ap, arith}
use Rattle.std.specs.Prelude.{slice_index}
use Rattle.network_adaptive.proofs.Ways.{waits_found, waits_none}
use Rattle.network_adaptive.proofs.between.waits_at.Goals as goal

pub returns-then-choices-base : goal.returns-then-choices-base
returns-then-choices-base c =
    let start : ℕ = c.args.base + c.args.x * c.args.ways in
    let value = c.cell.ensures.value in
    let place : start + c.loop-k.k ≡ c.args.base + c.cell.result = omega arith in
    sym (waits_found c.args.kinds.now c.args.choices.now c.args.base c.args.ways c.args.x c.loop-k.k c.args.y (omega arith)
    (sym c.goes_on.ensures ∙ c.if-not-goes_on.false) (ap (slice_index c.args.choices.now) place ∙ c.if-choices-base.true))

pub returns : goal.returns
returns c =
    sym (waits_none c.args.kinds.now c.args.choices.now c.args.base c.args.ways c.args.x c.loop-k.k c.args.y (omega arith) c.loop-k.invariant)
