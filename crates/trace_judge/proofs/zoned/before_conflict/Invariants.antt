use Rattle.std.proofs.Common.{◌<◌, ◌≤◌, ◌-◌, length}
use Rattle.trace_judge.proofs.zoned.before_conflict.Given as goal

abbrev pub invariant-loop-good : goal.invariant-loop-good
invariant-loop-good g l = (l.good < l.bad) × (l.bad ≤ length l.events)

abbrev pub decreases-loop-good : goal.decreases-loop-good
decreases-loop-good g l = l.bad - l.good
