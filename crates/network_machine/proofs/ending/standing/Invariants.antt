use Rattle.std.proofs.Common.{ℕ, ◌<◌}
use Rattle.network_machine.specs.Endings.{HoldsNoFlit}
use Rattle.network_machine.proofs.ending.standing.Given as goal

-- none so far
abbrev pub invariant-loop-x : goal.invariant-loop-x
invariant-loop-x l = record {
  clear : (z : ℕ) → z < l.x → HoldsNoFlit l.channels z;
}
