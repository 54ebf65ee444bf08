use Rattle.model_values.proofs.Taking.{closes, turns}
use Rattle.model_values.proofs.choices.turn_back.Goals as goal

pub returns-in-Some-next_source : goal.returns-in-Some-next_source
returns-in-Some-next_source g c rules n search = turns c.args.valued.now c.pop.new.self.items c.loop-x.path.items c.push.new.self.items c.in-Some.x
    c.in-Some.last c.in-Some-next_source.s c.in-Some.ensures.items c.in-Some-next_source.ensures.above c.in-Some-next_source.ensures.may
    c.in-Some-next_source.ensures.least c.in_ok-push.ensures.items rules n (c.loop-x.invariant.closes rules n search)

pub loop-x-preserved : goal.loop-x-preserved
loop-x-preserved g c = record {
  closes = λ rules n search. closes c.args.valued.now c.pop.new.self.items c.loop-x.path.items c.in-Some.x c.in-Some.last c.in-Some.ensures.items
      c.in_default-next_source.ensures.none rules n (c.loop-x.invariant.closes rules n search);
}
