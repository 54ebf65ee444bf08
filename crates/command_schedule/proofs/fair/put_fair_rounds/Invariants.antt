use Rattle.std.proofs.Common.{◌≡◌, ℕ, [], length, Option}
use Rattle.one_order.specs.Load.{Load}
use Rattle.core_laws.specs.Machine.{IsAfter}
use Rattle.program_fault.specs.Done.{output}
use Rattle.fair_rounds.specs.declared.pacing.Pace.TheVariants.{Fair}
use Rattle.fair_rounds.specs.Paces.{first_guard, guard_behind}
use Rattle.command_schedule.proofs.InRounds.{HasPut}
use Rattle.command_schedule.proofs.fair.put_fair_rounds.Given as goal

-- the rounds so far are made and their lines put, and before each not every script was finished
abbrev pub invariant-loop-before : goal.invariant-loop-before
invariant-loop-before g l = record {
  put : (load : Load) (most : Option ℕ) → IsAfter load l.fn.machine [] → l.fn.guard ≡ first_guard (Fair most) l.fn.machine
      → HasPut (Fair most) load l.before l.machine (output (g.W.Out.taken l.fn.out) (g.W.Out.failures l.fn.out))
      (output (g.W.Out.taken l.out) (g.W.Out.failures l.out));
  guard : (load : Load) (most : Option ℕ) → IsAfter load l.fn.machine [] → l.fn.guard ≡ first_guard (Fair most) l.fn.machine
      → l.guard ≡ guard_behind (Fair most) load l.before;
  room : length l.room ≡ length l.fn.room;
}
