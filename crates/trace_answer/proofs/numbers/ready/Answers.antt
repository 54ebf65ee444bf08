use Rattle.std.proofs.Common.{◌≡◌, arith}
use Rattle.trace_answer.proofs.Waiting.{split_count}
use Rattle.trace_answer.proofs.numbers.ready.Goals as goal

pub returns-clause-value : goal.returns-clause-value
returns-clause-value c =
    let same : c.loop-low.low ≡ c.loop-low.high = omega arith in
    split_count c.args.waits.now c.args.at c.loop-low.low (omega arith) c.loop-low.invariant.under
    (λ j w l h. c.loop-low.invariant.over j w (omega arith) h)
