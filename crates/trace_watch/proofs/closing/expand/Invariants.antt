use Rattle.std.proofs.Common.{◌≤◌, max, length}
use Rattle.trace_watch.specs.States.{configs_of}
use Rattle.trace_watch.specs.Chains.{IsIndexed}
use Rattle.trace_watch.proofs.Growth.{Expanding}
use Rattle.trace_watch.proofs.closing.expand.Given as goal

abbrev pub invariant-loop-i : goal.invariant-loop-i
invariant-loop-i g l = record {
  was : Expanding l.at l.calls l.newest (configs_of l.initial.found.items) l.i (configs_of l.found.items);
  few : length l.found.items ≤ max l.bound (length l.initial.found.items);
  indexed : IsIndexed l.index (configs_of l.found.items);
}
