use Rattle.trace_watch.proofs.Compared.{Covering}
use Rattle.trace_watch.proofs.state.are_covered.Given as goal

abbrev pub invariant-loop-i : goal.invariant-loop-i
invariant-loop-i l = Covering l.some l.others l.i
