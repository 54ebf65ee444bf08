use Rattle.std.proofs.Common.{◌∙◌}
use Rattle.network_machine.proofs.Cells.{pairs_more}
use Rattle.network_machine.proofs.pairs.mark_pairs.Goals as goal

pub loop-k-preserved : goal.loop-k-preserved
loop-k-preserved g c = record {
  size = c.mark_pair.ensures.size ∙ c.loop-k.invariant.size;
  pairs = pairs_more c.args.joins.now c.loop-k.k _ _ _ c.loop-k-test.true c.loop-k.invariant.pairs c.mark_pair.ensures.marks;
}
