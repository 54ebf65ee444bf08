use Rattle.std.proofs.Common.{◌≤◌, max, length}
use Rattle.trace_watch.specs.States.{configs_of}
use Rattle.trace_watch.specs.Chains.{IsIndexed}
use Rattle.trace_watch.proofs.Growth.{Catching}
use Rattle.trace_watch.proofs.closing.catch_up.Given as goal

abbrev pub invariant-loop-next : goal.invariant-loop-next
invariant-loop-next g l = record {
  was : Catching l.from l.calls l.newest (configs_of l.initial.found.items) l.next (configs_of l.found.items);
  few : length l.found.items ≤ max l.bound (length l.initial.found.items);
  indexed : IsIndexed l.index (configs_of l.found.items);
}
