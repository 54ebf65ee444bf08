use Rattle.std.proofs.Common.{◌≡◌, ◌≤◌, take}
use Rattle.std.specs.Prelude.{sum_by}
use Rattle.command_schedule.specs.Answers.{least_of}
use Rattle.command_schedule.proofs.answer_count.least_count.Given as goal

-- those so far are counted
abbrev pub invariant-loop-line : goal.invariant-loop-line
invariant-loop-line l = record {
  counted : l.count ≡ sum_by least_of (take l.line-index l.lines);
  few : l.count ≤ l.line-index;
}
