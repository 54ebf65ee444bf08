use Rattle.std.proofs.Common.{◌+◌, ◌≤◌, map, take}
use Rattle.torus.specs.declared.step.Choice.TheVariants.{Put}
use Rattle.core_laws.specs.Core.{attempts_of}
use Rattle.command_schedule.specs.Fair.{KeepsEnabled}
use Rattle.command_schedule.proofs.fair_list.keep_puts.Given as goal

-- the enabled puts of the inputs so far are kept
abbrev pub invariant-loop-input : goal.invariant-loop-input
invariant-loop-input g l = record {
  so_far : KeepsEnabled l.machine (attempts_of l.agent (map (λ input. Put input) (take l.input-index l.inputs))) l.fn.room l.count l.room l.kept;
  few : l.kept ≤ l.count + l.input-index;
}
