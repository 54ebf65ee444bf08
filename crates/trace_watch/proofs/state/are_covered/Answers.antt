use Rattle.trace_watch.proofs.Compared.{covered_long, covering_none}
use Rattle.trace_watch.proofs.state.are_covered.Goals as goal

pub loop-i-init : goal.loop-i-init
loop-i-init c = covering_none c.args.some.now c.args.others.now

pub returns-then-some-others-clause-no : goal.returns-then-some-others-clause-no
returns-then-some-others-clause-no c = λ t a.
    c.if-some-others.true (covered_long c.args.some.now c.args.others.now a)
