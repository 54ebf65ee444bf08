use Rattle.std.proofs.Common.{◌≤◌}
use Rattle.state_search.specs.Parts.{AreClosed, AreWithin}
use Rattle.state_search.proofs.smallest.leave_out_chunks.Given as goal

abbrev pub invariant-sizes : goal.invariant-sizes
invariant-sizes g l = record {
  closed : AreClosed l.sources l.kept.items;
  broken : g.J.PartJudge.breaks l.judge l.kept.items;
  within : AreWithin l.kept.items l.initial.kept.items;
  fewer : l.left ≤ l.initial.left;
}

abbrev pub decreases-sizes : goal.decreases-sizes
decreases-sizes g l = l.size
