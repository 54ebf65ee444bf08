use Rattle.std.proofs.Common.{◌≡◌, drop}
use Rattle.core_laws.specs.Machine.{core_after}
use Rattle.torusmem_c.specs.Steps.{steps_named}
use Rattle.torusmem_c.proofs.stepping.made_all.Given as goal

-- what is left of the attempts leads where all of them lead from the start, and the scripts are as they were
abbrev pub invariant-loop-it : goal.invariant-loop-it
invariant-loop-it l = record {
  led : core_after l.machine.asked.core (steps_named (drop l.it-index l.attempts)) ≡ core_after l.fn.machine.asked.core (steps_named l.attempts);
  spins : l.machine.asked.spins ≡ l.fn.machine.asked.spins;
  guard : l.machine.asked.guard ≡ l.fn.machine.asked.guard;
}
