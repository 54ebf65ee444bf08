use Rattle.std.proofs.Common.{ℕ, ◌<◌}
use Rattle.weak_models.specs.Preserved.{IsStoreOn}
use Rattle.weak_models.proofs.rules.has_store_between.Given as goal

-- no operation so far is such a store
abbrev pub invariant-loop-m : goal.invariant-loop-m
invariant-loop-m l = record {
  low : l.x < l.m;
  none : (m : ℕ) → l.x < m → m < l.m → IsStoreOn l.operations m l.y → ⊥;
}
