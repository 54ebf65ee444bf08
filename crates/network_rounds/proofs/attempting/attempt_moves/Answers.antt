use Rattle.std.proofs.Common.{◌∙◌, arith}
use Rattle.network_rounds.proofs.Lists.{makes_next, same_over}
use Rattle.network_rounds.proofs.attempting.attempt_moves.Goals as goal

pub loop-k-preserved : goal.loop-k-preserved
loop-k-preserved g c = record {
  size = c.attempt_one-count.auto.made ∙ c.loop-k.invariant.size;
  few = (let one = c.attempt_one-count.ensures.few in let few = c.loop-k.invariant.few in omega (arith, one, few));
  adds = makes_next c.args.machine.now c.loop-k.machine c.attempt_one-count.new.machine c.args.grants.now.lasts.items c.loop-k.grants.lasts.items
      c.attempt_one-count.new.grants.lasts.items c.args.attempts.now c.loop-k.k _ _ _ _ c.loop-k-test.true
      c.loop-k.invariant.adds c.attempt_one-count.ensures.adds;
  same = same_over c.args.machine.now c.loop-k.machine c.attempt_one-count.new.machine c.loop-k.invariant.same c.attempt_one-count.ensures.same;
  channels = c.attempt_one-count.ensures.channels;
  grants = c.attempt_one-count.ensures.grants;
  flags = λ choices are. c.attempt_one-count.ensures.flags choices (c.loop-k.invariant.flags choices are);
}
