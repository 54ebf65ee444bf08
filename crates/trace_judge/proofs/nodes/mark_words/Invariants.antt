use Rattle.trace_judge.proofs.Ranks.{WordsEnd}
use Rattle.trace_judge.proofs.nodes.mark_words.Given as goal

abbrev pub invariant-loop-w : goal.invariant-loop-w
invariant-loop-w g l = WordsEnd l.words l.initial.marks l.w l.marks
