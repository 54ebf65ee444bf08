use Rattle.std.proofs.Common.{◌≡◌, ◌+◌, ◌*◌, ◌∙◌, ℕ, sym, ap, arith}
use Rattle.std.specs.Prelude.{slice_index}
use Rattle.dead_sets.proofs.Coming.{no_step, step_at}
use Rattle.dead_sets.proofs.filling.steps_to.Goals as goal

pub returns : goal.returns
returns c = sym (no_step c.args.kinds.now c.args.choices.now c.args.base c.args.ways c.args.x c.args.y c.loop-k.k (omega arith) c.loop-k.invariant)

pub returns-then-choices-base : goal.returns-then-choices-base
returns-then-choices-base c =
    let start : ℕ = c.args.base + c.args.x * c.args.ways in
    let value = c.cell.ensures.value in
    let place : start + c.loop-k.k ≡ c.args.base + c.cell.result = omega arith in
    sym (step_at c.args.kinds.now c.args.choices.now c.args.base c.args.ways c.args.x c.args.y c.loop-k.k
    (sym c.goes_on.ensures ∙ c.if-not-goes_on.false) (omega arith) (omega arith) (ap (slice_index c.args.choices.now) place ∙ c.if-choices-base.true))
