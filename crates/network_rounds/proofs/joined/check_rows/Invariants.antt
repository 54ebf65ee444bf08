use Rattle.network_rounds.specs.Joined.{AreJoined}
use Rattle.network_rounds.proofs.joined.check_rows.Given as goal

-- the packets so far
abbrev pub invariant-loop-k : goal.invariant-loop-k
invariant-loop-k g l = AreJoined l.joins l.traffic.packets.items l.k
