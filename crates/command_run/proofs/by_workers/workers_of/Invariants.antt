use Rattle.std.proofs.Common.{◌≡◌, map}
use Rattle.command_run.specs.Workers.{new_worker}
use Rattle.command_run.proofs.by_workers.workers_of.Given as goal

-- the seats so far have workers
abbrev pub invariant-loop-seat : goal.invariant-loop-seat
invariant-loop-seat g l = l.workers.items ≡ map new_worker l.yielded
