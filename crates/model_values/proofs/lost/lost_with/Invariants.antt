use Rattle.std.proofs.Common.{ℕ, ◌<◌}
use Rattle.model_values.specs.Values.{IsLostUpdate}
use Rattle.model_values.proofs.lost.lost_with.Given as goal

-- none of the operations so far
abbrev pub invariant-loop-y : goal.invariant-loop-y
invariant-loop-y l = record { none : (y : ℕ) → y < l.y → IsLostUpdate l.valued l.x y → ⊥ }
