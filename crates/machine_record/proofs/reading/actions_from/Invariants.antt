use Rattle.std.proofs.Common.{◌≡◌}
use Rattle.machine_record.specs.Reading.{actions_from}
use Rattle.machine_record.proofs.reading.actions_from.Given as goal

-- the actions so far are there
abbrev pub invariant-loop-index : goal.invariant-loop-index
invariant-loop-index g l = l.actions.items ≡ actions_from l.bytes l.at l.index
