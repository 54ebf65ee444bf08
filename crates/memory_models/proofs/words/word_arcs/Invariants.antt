use Rattle.memory_models.specs.Arcs.{ExtendsEdges, AreArcs, RisesByWords}
use Rattle.memory_models.proofs.words.word_arcs.Given as goal

-- the arcs so far
abbrev pub invariant-loop-y : goal.invariant-loop-y
invariant-loop-y g l = record {
  arcs : AreArcs l.rules l.operations l.writes l.edges.items;
  more : ExtendsEdges l.fn.edges.items l.edges.items;
  rises : RisesByWords l.operations l.writes l.y l.edges.items;
}
