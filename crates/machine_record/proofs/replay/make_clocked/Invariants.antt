use Rattle.std.proofs.Common.{◌≡◌}
use Rattle.machine_record.specs.Replay.{clocked_rounds_made}
use Rattle.machine_record.proofs.replay.make_clocked.Given as goal

-- so many clocked rounds are made
abbrev pub invariant-loop-turn : goal.invariant-loop-turn
invariant-loop-turn g l = l.machine ≡ clocked_rounds_made l.fn.machine l.turn
