use Rattle.std.proofs.Common.{◌≡◌, ℕ, Some, None, length, subst, arith}
use Rattle.trace_judge.specs.Searched.{HasSearched}
use Rattle.trace_judge.proofs.Existing.{holds_linearizable}
use Rattle.trace_judge.proofs.quick.run_quickly.Goals as goal

pub returns-in-Ok-false : goal.returns-in-Ok-false
returns-in-Ok-false g c = (
  λ e. (
    omega arith,
    holds_linearizable c.args.opening.now c.args.events.now c.args.events.now c.loop-k.k c.loop-k.search c.loop-k.invariant,
  ),
  c.in-Ok-false.ensures.no c.in-Ok-false.field-0-test,
)

pub returns : goal.returns
returns g c =
    let e : c.loop-k.k ≡ length c.args.events.now = omega arith in (
      λ e. absurd (let no : Some c.loop-k.search ≡ None = e in cc),
      subst (λ (n : ℕ). HasSearched c.args.opening.now c.args.events.now c.args.events.now n c.loop-k.search) e c.loop-k.invariant,
    )
