use Rattle.std.proofs.Common.{ℕ, ◌<◌}
use Rattle.std.specs.Prelude.{slice_index}
use Rattle.weak_models.specs.Order.{IsBehindPair}
use Rattle.weak_models.proofs.pairs.first_behind.Given as goal

-- no write so far is behind the pair
abbrev pub invariant-loop-p : goal.invariant-loop-p
invariant-loop-p l = record {
  none : (p : ℕ) → p < l.p → IsBehindPair l.notes l.operations l.w (slice_index l.writes p) → ⊥;
}
