use Rattle.std.proofs.Common.{◌≡◌, ◌+◌}
use Rattle.std.specs.Prelude.{drop}
use Rattle.trace_watch.specs.States.{spot}
use Rattle.trace_watch.proofs.state.spot.Given as goal

abbrev pub invariant-loop-i : goal.invariant-loop-i
invariant-loop-i l = spot l.effects l.effect ≡ l.i + spot (drop l.i l.effects) l.effect
