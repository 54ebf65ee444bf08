use Rattle.std.proofs.Common.{◌≡◌, ◌-◌, drop, length}
use Rattle.network_judge.specs.Jams.{AreFilledInTurn}
use Rattle.network_run.specs.Filling.{jam_moves}
use Rattle.network_run.proofs.filling.filling_moves.Given as goal

-- the moves that fill the channels of the last items
abbrev pub invariant-loop-k : goal.invariant-loop-k
invariant-loop-k g l = AreFilledInTurn l.network.table l.fills → l.moves.items ≡ jam_moves l.network.table l.depth (drop (length l.fills - l.k) l.fills)
