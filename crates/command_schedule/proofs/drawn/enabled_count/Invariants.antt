use Rattle.std.proofs.Common.{◌≡◌, ◌≤◌, length, take}
use Rattle.command_schedule.specs.Drawn.{enabled_now}
use Rattle.command_schedule.proofs.drawn.enabled_count.Given as goal

-- those so far are counted
abbrev pub invariant-loop-attempt : goal.invariant-loop-attempt
invariant-loop-attempt g l = record {
  counted : l.count ≡ length (enabled_now l.machine (take l.attempt-index l.attempts));
  few : l.count ≤ l.attempt-index;
}
