use Rattle.std.proofs.Common.{◌≡◌, ◌++◌}
use Rattle.network_run.specs.Filling.{packets_moves}
use Rattle.network_run.proofs.filling.put_fill.Given as goal

-- the moves of the packets so far
abbrev pub invariant-loop-held : goal.invariant-loop-held
invariant-loop-held g l = l.moves.items ≡ l.initial.moves.items ++ packets_moves l.packet l.way.before.items l._held
