use Rattle.memory_models.specs.Trace.{writes_rule}
use Rattle.memory_models.specs.Arcs.{ExtendsEdges, AreArcs, RisesOverStale}
use Rattle.memory_models.proofs.Lasts.{AreLasts}
use Rattle.memory_models.proofs.program.stale_arcs.Given as goal

-- the arcs so far, and the last writes so far
abbrev pub invariant-loop-y : goal.invariant-loop-y
invariant-loop-y g l = record {
  arcs : AreArcs l.rules l.operations l.writes l.edges.items;
  more : ExtendsEdges l.fn.edges.items l.edges.items;
  rises : RisesOverStale l.operations l.y l.edges.items;
  lasts : AreLasts writes_rule l.operations l.words l.y l.lasts.items;
}
