use Rattle.std.proofs.Common.{◌≡◌, take}
use Rattle.machine_parts.specs.Machine.{shown}
use Rattle.machine_asked.proofs.opening.words_of.Given as goal

-- the words so far are there
abbrev pub invariant-loop-address : goal.invariant-loop-address
invariant-loop-address g l = l.words.items ≡ take l.address (shown l.machine).memory
