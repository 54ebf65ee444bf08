use Rattle.std.proofs.Common.{◌+◌, ◌≤◌, take}
use Rattle.core_laws.specs.Core.{attempts_of}
use Rattle.command_schedule.specs.Fair.{KeepsEnabled}
use Rattle.command_schedule.proofs.fair_list.keep_choices.Given as goal

-- the enabled ones of the choices so far are kept
abbrev pub invariant-loop-choice : goal.invariant-loop-choice
invariant-loop-choice g l = record {
  so_far : KeepsEnabled l.machine (attempts_of l.agent (take l.choice-index l.choices)) l.fn.room l.count l.room l.kept;
  few : l.kept ≤ l.count + l.choice-index;
}
