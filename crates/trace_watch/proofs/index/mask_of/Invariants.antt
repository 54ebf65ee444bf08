use Rattle.trace_watch.proofs.Masks.{Marking}
use Rattle.trace_watch.proofs.index.mask_of.Given as goal

abbrev pub invariant-loop-i : goal.invariant-loop-i
invariant-loop-i l = Marking l.effects l.i l.mask
