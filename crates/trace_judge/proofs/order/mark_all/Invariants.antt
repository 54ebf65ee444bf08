use Rattle.trace_judge.specs.Sets.{lists_of}
use Rattle.trace_judge.proofs.Marking.{PicksSoFar}
use Rattle.trace_judge.proofs.Firsts.{firsts}
use Rattle.trace_judge.proofs.order.mark_all.Given as goal

abbrev pub invariant-loop-word : goal.invariant-loop-word
invariant-loop-word g l = PicksSoFar (firsts l.search.words.items) l.word
    (lists_of l.search.words.items) l.search.nodes.items l.marks.items
