use Rattle.std.proofs.Common.{◌≡◌, ◌+◌, ◌-◌, ◌*◌, ◌≤◌}
use Rattle.machine_parts.specs.Core.{attempts_of}
use Rattle.machine_parts.specs.Machine.{core_after}
use Rattle.torus.specs.Choices.{takes_of_all}
use Rattle.machine_core.proofs.machine.Machine.attempt_takes.Given as goal

-- the ports so far are attempted
abbrev pub invariant-loop-from : goal.invariant-loop-from
invariant-loop-from g l = record {
  made : l.self ≡ core_after l.fn.self (attempts_of (3 * l.tile + 1) (takes_of_all l.from));
  within : l.from ≤ l.ports;
}

abbrev pub decreases-loop-from : goal.decreases-loop-from
decreases-loop-from g l = l.ports - l.from
