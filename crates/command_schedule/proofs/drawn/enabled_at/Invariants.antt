use Rattle.std.proofs.Common.{◌≡◌, drop, slice_get}
use Rattle.command_schedule.specs.Drawn.{enabled_now}
use Rattle.command_schedule.proofs.drawn.enabled_at.Given as goal

-- it is found among those that are left
abbrev pub invariant-loop-attempt : goal.invariant-loop-attempt
invariant-loop-attempt g l =
    slice_get (enabled_now l.machine (drop l.attempt-index l.attempts)) l.left ≡ slice_get (enabled_now l.machine l.attempts) l.index
