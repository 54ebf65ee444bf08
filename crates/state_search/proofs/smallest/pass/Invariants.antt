use Rattle.std.proofs.Common.{◌≤◌, length}
use Rattle.state_search.specs.Parts.{AreClosed, AreWithin}
use Rattle.state_search.proofs.Passing.{IsPassedDownTo}
use Rattle.state_search.proofs.smallest.pass.Given as goal

abbrev pub invariant-items : goal.invariant-items
invariant-items g l = record {
  closed : AreClosed l.sources l.kept.items;
  broken : g.J.PartJudge.breaks l.judge l.kept.items;
  within : AreWithin l.kept.items l.initial.kept.items;
  inside : l.at ≤ length l.kept.items;
  fewer : l.left ≤ l.initial.left;
  passed : IsPassedDownTo l.sources (g.J.PartJudge.stands l.judge) l.kept.items l.initial.left l.left
      l.at l.passed;
}

abbrev pub decreases-items : goal.decreases-items
decreases-items g l = l.at
