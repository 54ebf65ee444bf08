use Rattle.std.specs.Prelude.{slice_index}
use Rattle.network_adaptive.specs.Travel.{choice_graph}
use Rattle.network_adaptive.proofs.Farthest.{AreFarSo}
use Rattle.network_adaptive.proofs.longest.farthest.Given as goal

-- the nodes with the numbers so far are done
abbrev pub invariant-loop-left : goal.invariant-loop-left
invariant-loop-left g l =
    AreFarSo (choice_graph l.graph.kinds.now l.graph.choices.now l.graph.base l.graph.ways l.graph.seen.now) (slice_index l.numbers) l.far.items l.left

-- the numbers that are left
abbrev pub decreases-loop-left : goal.decreases-loop-left
decreases-loop-left g l = l.left
