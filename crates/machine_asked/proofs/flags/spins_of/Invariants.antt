use Rattle.std.proofs.Common.{◌≡◌, map, take}
use Rattle.machine_asked.specs.Asked.{has_spin}
use Rattle.machine_asked.proofs.flags.spins_of.Given as goal

-- those of the scripts so far are there
abbrev pub invariant-loop-processor : goal.invariant-loop-processor
invariant-loop-processor g l = l.spins.items ≡ map has_spin (take l.processor l.scripts.lists)
