use Rattle.std.proofs.Common.{◌≡◌, []}
use Rattle.one_order.specs.Load.{Load}
use Rattle.core_laws.specs.Core.{round}
use Rattle.core_laws.specs.Machine.{IsAfter}
use Rattle.program_fault.specs.Done.{output}
use Rattle.fair_rounds.specs.declared.pacing.Pace.TheVariants.{InOrder}
use Rattle.command_schedule.proofs.InRounds.{HasPut}
use Rattle.command_schedule.proofs.in_rounds.put_rounds.Given as goal

-- the rounds so far are made and their lines put, and before each not every script was finished
abbrev pub invariant-loop-before : goal.invariant-loop-before
invariant-loop-before g l = record {
  put : (load : Load) → IsAfter load l.fn.machine []
      → HasPut InOrder load l.before l.machine (output (g.W.Out.taken l.fn.out) (g.W.Out.failures l.fn.out))
      (output (g.W.Out.taken l.out) (g.W.Out.failures l.out));
  round : l.attempts ≡ round l.machine.shape;
}
