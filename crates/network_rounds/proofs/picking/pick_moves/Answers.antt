use Rattle.std.proofs.Common.{◌∙◌, arith}
use Rattle.network_rounds.proofs.Lists.{adds_next}
use Rattle.network_rounds.proofs.picking.pick_moves.Goals as goal

pub loop-k-preserved : goal.loop-k-preserved
loop-k-preserved g c = record {
  size = c.pick_one-picked.auto.enabled ∙ c.loop-k.invariant.size;
  few = (let one = c.pick_one-picked.ensures.few in let few = c.loop-k.invariant.few in omega (arith, one, few));
  adds = adds_next c.args.machine.now c.args.moves.now c.loop-k.k _ _ _ _ c.loop-k-test.true c.loop-k.invariant.adds c.pick_one-picked.ensures.adds;
}
