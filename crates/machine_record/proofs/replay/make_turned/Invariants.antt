use Rattle.std.proofs.Common.{◌≡◌}
use Rattle.machine_record.specs.Replay.{turned_made}
use Rattle.machine_record.proofs.replay.make_turned.Given as goal

-- so many clocked rounds in a row are made
abbrev pub invariant-loop-made : goal.invariant-loop-made
invariant-loop-made g l = l.machine ≡ turned_made l.fn.machine l.fn.turns.first l.made
