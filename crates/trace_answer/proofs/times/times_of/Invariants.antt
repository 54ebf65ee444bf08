use Rattle.trace_answer.specs.Times.{AreTimesBelow}
use Rattle.trace_answer.proofs.times.times_of.Given as goal

-- the events so far are noted
abbrev pub invariant-loop-i : goal.invariant-loop-i
invariant-loop-i g l = AreTimesBelow l.events l.i l.count l.times.items
