use Rattle.std.proofs.Common.{◌≡◌, length}
use Rattle.trace_guess.specs.Explained.{AreIssued}
use Rattle.trace_guess.proofs.explained.calls_at.Given as goal

abbrev pub invariant-loop-x : goal.invariant-loop-x
invariant-loop-x g l = record {
  size : length l.order.items ≡ l.x;
  issued : AreIssued l.events l.issues l.order.items;
}
