use Rattle.std.proofs.Common.{◌≡◌, ℕ, ◌+◌, ◌-◌, ◌*◌, ◌≤◌}
use Rattle.torus.specs.declared.step.Choice.TheVariants.{Put}
use Rattle.machine_parts.specs.Core.{attempts_of}
use Rattle.torus.specs.Choices.{puts_of_all}
use Rattle.machine_core.specs.Rounds.{first_in}
use Rattle.machine_core.proofs.FirstEnabled.{from_port}
use Rattle.machine_core.proofs.machine.Machine.enabled_put.Given as goal

-- the puts that are left have the first that all of them have
abbrev pub invariant-loop-from : goal.invariant-loop-from
invariant-loop-from g l = record {
  same : first_in l.self (from_port (λ (k : ℕ). Put k) (3 * l.tile + 1) l.ports l.from)
      ≡ first_in l.self (attempts_of (3 * l.tile + 1) (puts_of_all l.ports));
  within : l.from ≤ l.ports;
}

abbrev pub decreases-loop-from : goal.decreases-loop-from
decreases-loop-from g l = l.ports - l.from
