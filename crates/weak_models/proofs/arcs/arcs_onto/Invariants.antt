use Rattle.memory_models.specs.Arcs.{ExtendsEdges}
use Rattle.weak_models.specs.Arcs.{AreRvwmoArcs, RisesOnto}
use Rattle.weak_models.proofs.arcs.arcs_onto.Given as goal

-- the arcs so far
abbrev pub invariant-loop-x : goal.invariant-loop-x
invariant-loop-x g l = record {
  arcs : AreRvwmoArcs l.notes l.dependencies l.operations l.writes l.edges.items;
  more : ExtendsEdges l.fn.edges.items l.edges.items;
  rises : RisesOnto l.notes l.dependencies l.operations l.writes l.y l.x l.edges.items;
}
