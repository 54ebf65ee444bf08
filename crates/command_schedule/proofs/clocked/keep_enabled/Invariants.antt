use Rattle.std.proofs.Common.{◌≡◌, ◌≤◌, length, take}
use Rattle.command_schedule.specs.Drawn.{enabled_now}
use Rattle.command_schedule.proofs.clocked.keep_enabled.Given as goal

-- those of the attempts so far that are enabled are kept
abbrev pub invariant-loop-attempt : goal.invariant-loop-attempt
invariant-loop-attempt g l = record {
  kept : take l.count l.room ≡ enabled_now l.machine (take l.attempt-index l.attempts);
  few : l.count ≤ l.attempt-index;
  room : length l.room ≡ length l.fn.room;
}
