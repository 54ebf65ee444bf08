use Rattle.std.proofs.Common.{◌≡◌, take}
use Rattle.machine_asked.proofs.opening.opened_with.Given as goal

-- the words so far are the same
abbrev pub invariant-loop-address : goal.invariant-loop-address
invariant-loop-address g l = take l.address l.machine.opening ≡ take l.address l.opening
