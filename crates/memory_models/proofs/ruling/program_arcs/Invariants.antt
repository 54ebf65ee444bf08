use Rattle.memory_models.specs.Arcs.{ExtendsEdges, AreArcs, RisesByRules}
use Rattle.memory_models.proofs.ruling.program_arcs.Given as goal

-- the arcs of the rules so far
abbrev pub invariant-loop-k : goal.invariant-loop-k
invariant-loop-k g l = record {
  arcs : AreArcs l.rules l.operations l.writes l.edges.items;
  more : ExtendsEdges l.fn.edges.items l.edges.items;
  rises : RisesByRules l.rules l.k l.operations l.edges.items;
}
