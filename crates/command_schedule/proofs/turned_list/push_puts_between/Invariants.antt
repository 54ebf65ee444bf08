use Rattle.std.proofs.Common.{◌≡◌, ◌≤◌, ◌++◌}
use Rattle.torus.specs.declared.step.Choice.TheVariants.{Put}
use Rattle.machine_core.specs.Rounds.{attempts_between}
use Rattle.command_schedule.proofs.turned_list.push_puts_between.Given as goal

-- the attempts so far are added
abbrev pub invariant-loop-input : goal.invariant-loop-input
invariant-loop-input g l = record {
  added : l.steps.items ≡ l.fn.steps.items ++ attempts_between (λ input. Put input) l.agent l.from l.input;
  low : l.from ≤ l.input;
}
