use Rattle.std.proofs.Common.{◌≡◌, ◌-◌, ◌≤◌}
use Rattle.machine_core.proofs.Marking.{MarkedTo}
use Rattle.machine_core.proofs.machine.Machine.mark.Given as goal

-- the attempts so far are marked where they are enabled
abbrev pub invariant-loop-from : goal.invariant-loop-from
invariant-loop-from g l = record {
  same : l.self ≡ l.fn.self;
  within : l.from ≤ l.end;
  marked : MarkedTo l.fn.self l.part l.tile l.fn.marks l.marks l.from;
}

abbrev pub decreases-loop-from : goal.decreases-loop-from
decreases-loop-from g l = l.end - l.from
