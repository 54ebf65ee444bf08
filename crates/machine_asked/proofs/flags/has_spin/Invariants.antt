use Rattle.std.proofs.Common.{◌≡◌, drop}
use Rattle.machine_asked.specs.Asked.{has_spin}
use Rattle.machine_asked.proofs.flags.has_spin.Given as goal

-- the lines so far are no spins
abbrev pub invariant-loop-line : goal.invariant-loop-line
invariant-loop-line l = has_spin (drop l.line-index l.lines) ≡ has_spin l.lines
