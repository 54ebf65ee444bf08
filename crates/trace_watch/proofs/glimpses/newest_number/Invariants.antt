use Rattle.std.proofs.Common.{◌≡◌, max}
use Rattle.std.specs.Prelude.{drop}
use Rattle.trace_watch.specs.States.{newest_number}
use Rattle.trace_watch.proofs.glimpses.newest_number.Given as goal

abbrev pub invariant-loop-i : goal.invariant-loop-i
invariant-loop-i l = newest_number l.calls ≡ max l.newest (newest_number (drop l.i l.calls))
