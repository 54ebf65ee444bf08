use Rattle.network_judge.proofs.Ends.{AreEndsTo}
use Rattle.network_judge.proofs.columns.ends_of.Given as goal

-- the ejection channels so far
abbrev pub invariant-loop-x : goal.invariant-loop-x
invariant-loop-x g l = record {
  so_far : AreEndsTo l.kinds l.x l.ends.items;
}
