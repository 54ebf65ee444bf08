use Rattle.std.proofs.Common.{◌≡◌, take}
use Rattle.script_lines.specs.Views.{lists_of}
use Rattle.command_schedule.specs.Answers.{bounds_of}
use Rattle.command_schedule.proofs.answer_count.bounds_of.Given as goal

-- those of the scripts so far are listed
abbrev pub invariant-loop-script : goal.invariant-loop-script
invariant-loop-script g l = l.bounds.items ≡ bounds_of (take l.script-index (lists_of l.scripts))
