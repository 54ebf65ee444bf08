use Rattle.trace_watch.proofs.Fitting.{Fitting}
use Rattle.trace_watch.proofs.matching.partners.Given as goal

abbrev pub invariant-loop-i : goal.invariant-loop-i
invariant-loop-i g l = Fitting l.calls l.effects l.i l.taken.items
