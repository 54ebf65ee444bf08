use Rattle.std.proofs.Common.{◌<◌, length, arith}
use Rattle.trace_watch.proofs.Beginning.{words_push, words_long}
use Rattle.trace_watch.proofs.watch.first_words.Goals as goal

pub loop-i-preserved : goal.loop-i-preserved
loop-i-preserved g c =
    let l : c.loop-i.i < length c.args.opening.now = omega arith in
    record {
      sized = words_long c.loop-i.words.items c.push.new.self.items c.in_ok-states.states c.loop-i.i
          c.loop-i.invariant.sized c.in_ok-push.ensures.items;
      first = words_push c.args.opening.now c.loop-i.words.items c.push.new.self.items c.loop-i.i c.in_ok-states.states
          c.loop-i.invariant.sized c.in_ok-push.ensures.items c.in_ok-states.ensures c.loop-i.invariant.first;
    }
