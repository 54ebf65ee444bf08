use Rattle.std.proofs.Common.{◌≡◌, drop}
use Rattle.machine_parts.specs.Machine.{core_after}
use Rattle.machine_core.proofs.machine.Machine.run.Given as goal

-- what is left of the steps leads where all of them lead from the start
abbrev pub invariant-loop-step : goal.invariant-loop-step
invariant-loop-step g l = core_after l.self (drop l.step-index l.steps) ≡ core_after l.fn.self l.steps
