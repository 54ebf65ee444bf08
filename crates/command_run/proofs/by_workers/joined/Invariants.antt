use Rattle.std.proofs.Common.{vec_len}
use Rattle.command_run.proofs.Joined.{IsJoining}
use Rattle.command_run.proofs.by_workers.joined.Given as goal

-- the seat has taken in the workers that are gone
abbrev pub invariant-loop-worker : goal.invariant-loop-worker
invariant-loop-worker g l = IsJoining l.fabric l.fn.workers.items l.workers.items l.whole

abbrev pub decreases-loop-worker : goal.decreases-loop-worker
decreases-loop-worker g l = vec_len l.workers
