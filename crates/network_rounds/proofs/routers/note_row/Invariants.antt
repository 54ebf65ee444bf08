use Rattle.network_judge.specs.Table.{table_of}
use Rattle.network_rounds.specs.Routers.{AreNoted}
use Rattle.network_rounds.proofs.routers.note_row.Given as goal

-- the choices of the columns so far are noted
abbrev pub invariant-loop-column : goal.invariant-loop-column
invariant-loop-column l = AreNoted (table_of l.kinds l.joins l.choices) l.x l.column l.routers l.firsts
