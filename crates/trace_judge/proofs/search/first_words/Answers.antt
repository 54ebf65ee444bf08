-- The first branch of one word more.
use Rattle.std.proofs.Common.{◌∙◌, arith}
use Rattle.trace_judge.proofs.Beginning.{more_first, more_length, none_length}
use Rattle.trace_judge.proofs.search.first_words.Goals as goal

pub loop-word-init : goal.loop-word-init
loop-word-init g c = record {
  sized = none_length c.new-words.result.items c.new-words.ensures.items;
  first = λ w l. absurd (omega arith);
}

pub loop-word-preserved : goal.loop-word-preserved
loop-word-preserved g c = record {
  sized = more_length c.loop-word.words.items c.push-in-loop-word.new.self.items c.push.new.self c.loop-word.word-index
      c.in_ok-push-2.ensures.items c.loop-word.invariant.sized;
  first = more_first c.args.opening.now c.loop-word.word-index c.loop-word.words.items c.push-in-loop-word.new.self.items c.push.new.self
      c.new-branches.result.items c.in_ok-push-2.ensures.items c.in_ok-push.ensures.items c.new-branches.ensures.items
      c.loop-word.invariant.sized c.loop-word.invariant.first;
}

pub returns-clause-sized : goal.returns-clause-sized
returns-clause-sized g c = c.loop-word.invariant.sized ∙ (omega arith)

pub returns-clause-first : goal.returns-clause-first
returns-clause-first g c = λ w l. c.loop-word.invariant.first w (omega arith)
