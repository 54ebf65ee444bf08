use Rattle.std.proofs.Common.{◌≡◌}
use Rattle.core_laws.specs.Core.{round}
use Rattle.program_fault.specs.Done.{output}
use Rattle.command_schedule.proofs.Drawing.{HasDrawn}
use Rattle.command_schedule.proofs.drawn.put_drawn.Given as goal

-- the moves so far are made and their lines put, and those that are left make up the whole
abbrev pub invariant-loop-left : goal.invariant-loop-left
invariant-loop-left g l = record {
  drawn : HasDrawn l.fn.machine l.most l.seed (output (g.W.Out.taken l.fn.out) (g.W.Out.failures l.fn.out))
      l.machine l.left l.draws (output (g.W.Out.taken l.out) (g.W.Out.failures l.out));
  round : l.attempts ≡ round l.machine.shape;
}

-- how many moves are left
abbrev pub decreases-loop-left : goal.decreases-loop-left
decreases-loop-left g l = l.left
