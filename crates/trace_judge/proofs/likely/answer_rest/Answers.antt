use Rattle.trace_judge.proofs.Guessing.{likely_answer}
use Rattle.trace_judge.proofs.likely.answer_rest.Goals as goal

pub loop-k-preserved : goal.loop-k-preserved
loop-k-preserved g c = λ whole events was.
    likely_answer whole events _ _ c.in_ok-answer.ensures (c.loop-k.invariant whole events was)
