-- A directed graph: nodes by number, and edges.
use Rattle.std.specs.Prelude.{◌≡◌, ℕ, ◌<◌, ◌==◌, Bool, true, List, length, slice_index_or}
use Rattle.rising.specs.declared.edge.Edge.{Edge}

-- the edge at a place
abbrev pub edge_at : List Edge → ℕ → Edge
edge_at edges k = slice_index_or edges k (record { from = 0; to = 0 })

-- each edge leads from a node to a node
pub record EdgesAreWithin (nodes : ℕ) (edges : List Edge) : Type 0 where
  pub from : (k : ℕ) → k < length edges → (edge_at edges k).from < nodes
  pub to : (k : ℕ) → k < length edges → (edge_at edges k).to < nodes

-- numbers of the nodes rise along each edge
abbrev pub RisesOnEdges : List Edge → (ℕ → ℕ) → Type 0
RisesOnEdges edges number =
    (k : ℕ) → k < length edges → number (edge_at edges k).from < number (edge_at edges k).to

-- a graph in columns: whether a node leads on in a column, and to which node (an adjacency list, each
-- node's edges numbered by columns)
pub record Digraph : Type 0 where
  pub nodes : ℕ
  pub columns : ℕ
  pub leads : ℕ → ℕ → Bool
  pub after : ℕ → ℕ → ℕ

-- a list of edges, each in a column of its own
abbrev pub digraph_of : ℕ → List Edge → Digraph
digraph_of nodes edges = record {
  nodes = nodes;
  columns = length edges;
  leads = λ x j. (edge_at edges j).from == x;
  after = λ x j. (edge_at edges j).to;
}

-- numbers of the nodes rise along each edge of such a graph
abbrev pub RisesAlong : Digraph → (ℕ → ℕ) → Type 0
RisesAlong g number = (x j : ℕ) → x < g.nodes → j < g.columns → g.leads x j ≡ true
    → number x < number (g.after x j)
