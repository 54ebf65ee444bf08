use Rattle.std.proofs.Common.{ℕ, ◌<◌}
use Rattle.network_machine.specs.Outputs.{IsOwnedBy}
use Rattle.network_machine.proofs.output.owned_among.Given as goal

-- none so far
abbrev pub invariant-loop-y : goal.invariant-loop-y
invariant-loop-y l = record {
  clear : (z : ℕ) → z < l.y → IsOwnedBy l.channels l.x z → ⊥;
}
