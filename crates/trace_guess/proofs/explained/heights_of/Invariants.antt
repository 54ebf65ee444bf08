use Rattle.std.proofs.Common.{◌≡◌, length}
use Rattle.trace_guess.specs.Explained.{AreBelow, AreHeights}
use Rattle.trace_guess.proofs.explained.heights_of.Given as goal

abbrev pub invariant-loop-k : goal.invariant-loop-k
invariant-loop-k g l = record {
  size : length l.heights.items ≡ l.k;
  heights : AreHeights l.events l.order l.told l.heights.items;
  below : AreBelow l.events l.order l.told l.k l.height;
}
