use Rattle.trace_watch.specs.Matchings.{MayStillBe}
use Rattle.trace_watch.proofs.Newest.{NewestBelow}
use Rattle.trace_watch.proofs.matching.newest_among.Given as goal

abbrev pub invariant-loop-i : goal.invariant-loop-i
invariant-loop-i l = NewestBelow l.calls (MayStillBe l.taken l.effect) l.i l.newest
