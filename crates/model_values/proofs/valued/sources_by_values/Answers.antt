use Rattle.std.proofs.Common.{ℕ, List, arith}
use Rattle.model_values.proofs.ByValues.{by_values, known_more, one_longer, unwritten}
use Rattle.model_values.proofs.LostUpdates.{lost}
use Rattle.model_values.proofs.valued.sources_by_values.Goals as goal

pub returns-in_default : goal.returns-in_default
returns-in_default g c =
    let u = c.in_default.ensures.none in
    (u, unwritten c.args.valued.now c.loop-x.x u.low u.reads u.none)

pub returns-in-Some-find_lost : goal.returns-in-Some-find_lost
returns-in-Some-find_lost g c =
    let l = c.in-Some-find_lost.ensures.some in
    (l, lost c.args.valued.now _ _ l)

pub loop-x-preserved : goal.loop-x-preserved
loop-x-preserved g c =
    let i = c.loop-x.invariant in
    let items : List ℕ = c.loop-x.sources.items in
    record {
      size = one_longer c.loop-x.x c.in-Some.source items c.push.new.self.items i.size c.in_ok-push.ensures.items;
      each = known_more c.args.valued.now c.loop-x.x c.in-Some.source items c.push.new.self.items i.size
          c.in_ok-push.ensures.items i.each c.in-Some.ensures.some;
    }

pub returns : goal.returns
returns g c =
    let v = c.args.valued.now in
    let i = c.loop-x.invariant in
    record {
      size = omega (arith, i.size, c.loop-x.auto.x-end, c.loop-x-test.false);
      each = λ x low. i.each x (omega (arith, low, c.loop-x-test.false));
      unlike = c.in-None.ensures.none;
      kept = c.in_default-find_lost.ensures.none;
      same = by_values v c.loop-x.sources.items c.in-None.ensures.none
          (λ x low reads. (i.each x (omega (arith, low, c.loop-x-test.false))).left reads);
    }
