use Rattle.memory_models.specs.Arcs.{ExtendsEdges}
use Rattle.weak_models.specs.Arcs.{AreRvwmoArcs, RisesOverPairs}
use Rattle.weak_models.proofs.pairs.pair_arcs.Given as goal

-- the arcs of the operations so far
abbrev pub invariant-loop-w : goal.invariant-loop-w
invariant-loop-w g l = record {
  arcs : AreRvwmoArcs l.notes l.dependencies l.operations l.writes l.edges.items;
  more : ExtendsEdges l.fn.edges.items l.edges.items;
  rises : RisesOverPairs l.notes l.operations l.w l.edges.items;
}
