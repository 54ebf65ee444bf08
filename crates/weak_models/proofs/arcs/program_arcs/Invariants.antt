use Rattle.memory_models.specs.Arcs.{ExtendsEdges}
use Rattle.weak_models.specs.Arcs.{AreRvwmoArcs, RisesByProgram}
use Rattle.weak_models.proofs.arcs.program_arcs.Given as goal

-- the arcs onto the operations so far
abbrev pub invariant-loop-y : goal.invariant-loop-y
invariant-loop-y g l = record {
  arcs : AreRvwmoArcs l.notes l.dependencies l.operations l.writes l.edges.items;
  more : ExtendsEdges l.fn.edges.items l.edges.items;
  rises : RisesByProgram l.notes l.dependencies l.operations l.writes l.y l.edges.items;
}
