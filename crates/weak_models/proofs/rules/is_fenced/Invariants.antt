use Rattle.std.proofs.Common.{ℕ, ◌<◌}
use Rattle.weak_models.specs.Preserved.{Orders}
use Rattle.weak_models.proofs.rules.is_fenced.Given as goal

-- no operation so far is such a fence
abbrev pub invariant-loop-m : goal.invariant-loop-m
invariant-loop-m l = record {
  low : l.x < l.m;
  none : (m : ℕ) → l.x < m → m < l.m → Orders l.notes l.operations m l.x l.y → ⊥;
}
