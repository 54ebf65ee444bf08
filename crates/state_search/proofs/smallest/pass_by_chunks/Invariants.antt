use Rattle.std.proofs.Common.{◌≤◌}
use Rattle.state_search.specs.Parts.{AreClosed, AreWithin}
use Rattle.state_search.proofs.smallest.pass_by_chunks.Given as goal

abbrev pub invariant-chunks : goal.invariant-chunks
invariant-chunks g l = record {
  closed : AreClosed l.sources l.kept.items;
  broken : g.J.PartJudge.breaks l.judge l.kept.items;
  within : AreWithin l.kept.items l.initial.kept.items;
  fewer : l.left ≤ l.initial.left;
}

abbrev pub decreases-chunks : goal.decreases-chunks
decreases-chunks g l = l.end
