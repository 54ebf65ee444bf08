use Rattle.trace_zones.specs.Zones.{is_listed}
use Rattle.trace_zones.proofs.Checks.{AloneBefore}
use Rattle.trace_zones.proofs.zone.is_alone.Given as goal

abbrev pub invariant-loop-i : goal.invariant-loop-i
invariant-loop-i l = AloneBefore l.events l.word (is_listed l.set) l.entry l.i
