use Rattle.std.proofs.Common.{◌≡◌, ℕ, ◌<◌, []}
use Rattle.rising.specs.declared.search.Mark.TheVariants.{New}
use Rattle.rising.specs.Search.{node_mark, IsDepthSearch}
use Rattle.rising.proofs.search.visit_all.Given as goal

-- all nodes so far are done with
abbrev pub invariant-loop-start : goal.invariant-loop-start
invariant-loop-start g l = record {
  search : IsDepthSearch (g.G.Graph.digraph l.graph) l.marks [] l.finished;
  begun : (x : ℕ) → x < l.start → node_mark l.marks x ≡ New → ⊥;
}
