-- Lists of edges.
use Rattle.std.specs.Prelude.{ℕ, List}
use Rattle.rising.specs.declared.edge.Edge.{Edge}
use Rattle.network_judge.specs.declared.table.Join.{Join}
use Rattle.network_judge.specs.declared.table.Reply.{Reply}
use Rattle.network_adaptive.specs.Flags.{IsEdgeOf}

-- edges lead from y to x where others lead from x to y
pub record AreReversed (edges turned : List Edge) : Type 0 where
  pub all : (x y : ℕ) → IsEdgeOf edges x y → IsEdgeOf turned y x
  pub only : (x y : ℕ) → IsEdgeOf turned y x → IsEdgeOf edges x y

-- edges lead from and to the same nodes as others
pub record AreSame (edges others : List Edge) : Type 0 where
  pub all : (x y : ℕ) → IsEdgeOf edges x y → IsEdgeOf others x y
  pub only : (x y : ℕ) → IsEdgeOf others x y → IsEdgeOf edges x y

-- the edge of a reply
abbrev pub reply_edge : Reply → Edge
reply_edge r = record { from = r.from; to = r.to }

-- the edge of a source-destination pair, from its destination to its source
abbrev pub pair_edge : Join → Edge
pair_edge p = record { from = p.to; to = p.from }
