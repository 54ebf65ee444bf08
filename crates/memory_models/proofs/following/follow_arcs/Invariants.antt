use Rattle.memory_models.specs.Arcs.{ExtendsEdges, AreArcs}
use Rattle.memory_models.proofs.Follow.{AreFirsts, RisesFrom}
use Rattle.memory_models.proofs.following.follow_arcs.Given as goal

-- the arcs so far, and the next operations so far
abbrev pub invariant-back : goal.invariant-back
invariant-back g l = record {
  arcs : AreArcs l.rules l.operations l.writes l.edges.items;
  more : ExtendsEdges l.fn.edges.items l.edges.items;
  rises : RisesFrom l.rule l.operations l.x l.edges.items;
  firsts : AreFirsts l.rule l.operations l.words l.x l.nexts.items;
}

abbrev pub decreases-back : goal.decreases-back
decreases-back g l = l.x
