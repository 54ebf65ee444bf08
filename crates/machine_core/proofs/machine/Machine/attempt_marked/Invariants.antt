use Rattle.std.proofs.Common.{◌≡◌, ◌-◌, ◌≤◌}
use Rattle.machine_parts.specs.Ports.{is_raised}
use Rattle.machine_parts.specs.Machine.{core_after}
use Rattle.machine_core.specs.Marked.{marked_between}
use Rattle.machine_core.proofs.machine.Machine.attempt_marked.Given as goal

-- what is marked so far is attempted
abbrev pub invariant-loop-at : goal.invariant-loop-at
invariant-loop-at g l = record {
  made : l.self ≡ core_after l.fn.self (marked_between (is_raised l.marks l.tile) l.part l.tile l.from l.at);
  low : l.from ≤ l.at;
  within : l.at ≤ l.end;
}

abbrev pub decreases-loop-at : goal.decreases-loop-at
decreases-loop-at g l = l.end - l.at
