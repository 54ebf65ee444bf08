use Rattle.std.proofs.Common.{drop, Some}
use Rattle.machine_core.specs.Guarded.{held_back}
use Rattle.program_fault.specs.Done.{output}
use Rattle.command_schedule.proofs.Attempts.{HasPut}
use Rattle.command_schedule.proofs.fair.put_guarded.Given as goal

-- the lines of the moves so far are put, and the attempts that are left lead where all do
abbrev pub invariant-loop-step : goal.invariant-loop-step
invariant-loop-step g l =
    HasPut l.fn.machine (Some l.number) (held_back l.held l.fn.machine l.steps) (output (g.W.Out.taken l.fn.out) (g.W.Out.failures l.fn.out))
    l.machine l.heading (held_back l.held l.machine (drop l.step-index l.steps)) (output (g.W.Out.taken l.out) (g.W.Out.failures l.out))
