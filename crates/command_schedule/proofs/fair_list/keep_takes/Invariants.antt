use Rattle.std.proofs.Common.{◌+◌, ◌≤◌}
use Rattle.torus.specs.declared.step.Choice.TheVariants.{TakeFrom}
use Rattle.machine_core.specs.Rounds.{attempts_between}
use Rattle.command_schedule.specs.Fair.{KeepsEnabled}
use Rattle.command_schedule.proofs.fair_list.keep_takes.Given as goal

-- the enabled ones so far are kept
abbrev pub invariant-loop-input : goal.invariant-loop-input
invariant-loop-input g l = record {
  so_far : KeepsEnabled l.machine (attempts_between (λ port. TakeFrom port) l.agent 0 l.input) l.fn.room l.count l.room l.kept;
  few : l.kept ≤ l.count + l.input;
}
