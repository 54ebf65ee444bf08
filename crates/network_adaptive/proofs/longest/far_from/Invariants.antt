use Rattle.std.proofs.Common.{◌<◌, length}
use Rattle.std.specs.Prelude.{slice_index}
use Rattle.network_adaptive.specs.Travel.{choice_graph}
use Rattle.network_adaptive.proofs.Farthest.{IsFarSo}
use Rattle.network_adaptive.proofs.longest.far_from.Given as goal

-- the most behind the places so far
abbrev pub invariant-loop-k : goal.invariant-loop-k
invariant-loop-k l = record {
  so : IsFarSo (choice_graph l.graph.kinds.now l.graph.choices.now l.graph.base l.graph.ways l.graph.seen.now) (slice_index l.far) l.x l.k l.most;
  low : l.most < length l.graph.kinds.now;
}
