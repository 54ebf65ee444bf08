use Rattle.std.proofs.Common.{◌+◌, ◌≤◌}
use Rattle.torus.specs.declared.step.Choice.TheVariants.{CreditOf}
use Rattle.machine_core.specs.Rounds.{attempts_between}
use Rattle.command_schedule.specs.Fair.{KeepsEnabled}
use Rattle.command_schedule.proofs.fair_list.keep_credits.Given as goal

-- the enabled ones so far are kept
abbrev pub invariant-loop-output : goal.invariant-loop-output
invariant-loop-output g l = record {
  so_far : KeepsEnabled l.machine (attempts_between (λ port. CreditOf port) l.agent 0 l.output) l.fn.room l.count l.room l.kept;
  few : l.kept ≤ l.count + l.output;
}
