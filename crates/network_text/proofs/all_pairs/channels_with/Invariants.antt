use Rattle.network_text.proofs.AllPairs.{AreSoFar}
use Rattle.network_text.proofs.all_pairs.channels_with.Given as goal

-- the channels so far
abbrev pub invariant-loop-x : goal.invariant-loop-x
invariant-loop-x g l = record {
  found : AreSoFar l.end l.kinds l.x l.out.items;
}
