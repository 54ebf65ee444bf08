use Rattle.std.proofs.Common.{◌≤◌}
use Rattle.state_search.specs.Parts.{AreClosed, AreWithin}
use Rattle.state_search.proofs.smallest.smallest_part.Given as goal

abbrev pub invariant-passes : goal.invariant-passes
invariant-passes g l = record {
  closed : AreClosed l.sources l.kept.items;
  broken : g.J.PartJudge.breaks l.judge l.kept.items;
  within : AreWithin l.kept.items l.fn.first.items;
  fewer : l.left ≤ l.fn.left;
}

abbrev pub decreases-passes : goal.decreases-passes
decreases-passes g l = l.left
