use Rattle.std.proofs.Common.{◌≡◌, ◌<◌, length}
use Rattle.trace_watch.specs.States.{configs_of}
use Rattle.trace_watch.specs.Chains.{AreChained}
use Rattle.trace_watch.proofs.index.index_with.Given as goal

abbrev pub invariant-loop-at : goal.invariant-loop-at
invariant-loop-at g l = record {
  chained : AreChained l.index.heads.items l.index.links.items (configs_of l.found);
  long : length l.index.links.items ≡ l.at;
  places : 0 < length l.index.heads.items;
}
