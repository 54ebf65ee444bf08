use Rattle.network_judge.specs.Table.{table_of}
use Rattle.network_rounds.specs.Routers.{AreNoted}
use Rattle.network_rounds.proofs.routers.routers_of.Given as goal

-- the choices behind the channels so far are noted
abbrev pub invariant-loop-x : goal.invariant-loop-x
invariant-loop-x g l = AreNoted (table_of l.kinds l.joins l.choices) l.x 0 l.routers.items l.firsts.items
