use Rattle.std.proofs.Common.{◌∙◌, arith}
use Rattle.network_rounds.proofs.Lists.{adds_next}
use Rattle.network_rounds.proofs.Picked.{idle_at}
use Rattle.network_rounds.proofs.picking.pick_choices.Goals as goal

pub pick_choice-picked-requires-clause-idle : goal.pick_choice-picked-requires-clause-idle
pick_choice-picked-requires-clause-idle g c = λ down.
    idle_at c.args.machine.now c.args.moves.now c.args.up.now c.loop-k.k _ _ c.requires.many c.loop-k-test.true down c.requires.idle

pub loop-k-preserved : goal.loop-k-preserved
loop-k-preserved g c = record {
  size = c.pick_choice-picked.auto.enabled ∙ c.loop-k.invariant.size;
  few = (let one = c.pick_choice-picked.ensures.few in let few = c.loop-k.invariant.few in omega (arith, one, few));
  adds = adds_next c.args.machine.now c.args.moves.now c.loop-k.k _ _ _ _ c.loop-k-test.true c.loop-k.invariant.adds c.pick_choice-picked.ensures.adds;
}
