use Rattle.network_machine.proofs.Cells.{no_pairs_more}
use Rattle.network_machine.proofs.pairs.empty_rows.Goals as goal

pub loop-x-preserved : goal.loop-x-preserved
loop-x-preserved g c =
    no_pairs_more c.loop-x.rows.items c.push.new.self.items c.in_ok-empty_row.field-0 _ c.loop-x.invariant c.in_ok-push.ensures.items c.in_ok-empty_row.ensures
