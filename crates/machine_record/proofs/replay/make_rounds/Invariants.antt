use Rattle.std.proofs.Common.{◌≡◌}
use Rattle.machine_record.specs.Replay.{rounds_made}
use Rattle.machine_record.proofs.replay.make_rounds.Given as goal

-- so many rounds are made
abbrev pub invariant-loop-made : goal.invariant-loop-made
invariant-loop-made g l = l.machine ≡ rounds_made l.fn.machine l.made
