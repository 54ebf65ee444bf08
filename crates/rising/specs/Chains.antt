-- The edges from each node in a chain.
use Rattle.std.specs.Prelude.{◌≡◌, ℕ, ◌+◌, ◌<◌, ◌≤◌, true, List, length, slice_index}
use Rattle.rising.specs.Graph.{Digraph}

-- the first column from one on in which a node leads on, or the number of columns
pub record IsNextColumn (g : Digraph) (x from to : ℕ) : Type 0 where
  pub high : from ≤ to
  pub low : to ≤ g.columns
  pub leads : to < g.columns → g.leads x to ≡ true
  pub none : (j : ℕ) → from ≤ j → j < to → g.leads x j ≡ true → ⊥

-- behind a column, if its node leads on there, the next one in which this node does
pub record AreChains (g : Digraph) (heads nexts : List ℕ) : Type 0 where
  pub heads_size : length heads ≡ g.nodes
  pub nexts_size : length nexts ≡ g.columns
  pub each_head : (x : ℕ) → x < g.nodes → IsNextColumn g x 0 (slice_index heads x)
  pub each_next : (x j : ℕ) → x < g.nodes → j < g.columns → g.leads x j ≡ true
      → IsNextColumn g x (j + 1) (slice_index nexts j)
