use Rattle.std.proofs.Common.{ℕ, ◌<◌}
use Rattle.network_machine.specs.Endings.{PreventsAllAt}
use Rattle.network_machine.proofs.machine.Machine.ending.Given as goal

-- no move so far
abbrev pub invariant-loop-x : goal.invariant-loop-x
invariant-loop-x g l = record {
  clear : (z : ℕ) → z < l.x → PreventsAllAt l.self z;
}
