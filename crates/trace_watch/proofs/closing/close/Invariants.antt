use Rattle.std.proofs.Common.{◌≤◌, length}
use Rattle.trace_watch.specs.States.{configs_of}
use Rattle.trace_watch.specs.Chains.{IsIndexed}
use Rattle.trace_watch.proofs.Growth.{Closing}
use Rattle.trace_watch.proofs.closing.close.Given as goal

abbrev pub invariant-loop-i : goal.invariant-loop-i
invariant-loop-i g l = record {
  was : Closing l.calls l.newest (configs_of l.states) l.i (configs_of l.found.items);
  few : length l.found.items ≤ l.bound;
  indexed : IsIndexed l.index (configs_of l.found.items);
}
