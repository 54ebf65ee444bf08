-- What is found of a graph: a topological order, or a cycle.
-- Kahn, Topological sorting of large networks, 1962.
use Rattle.std.specs.Prelude.{◌≡◌, ℕ, ◌+◌, ◌-◌, ◌<◌, List, length, slice_index}
use Rattle.rising.specs.declared.edge.Edge.{Edge}
use Rattle.rising.specs.declared.edge.Found.{Found}
use Rattle.rising.specs.declared.edge.Found.TheVariants.{Rising, Cycle}
use Rattle.rising.specs.declared.finding.Searched.{Searched}
use Rattle.rising.specs.declared.finding.Searched.TheVariants as searched
use Rattle.rising.specs.Graph.{Digraph, edge_at, RisesOnEdges, RisesAlong}
use Rattle.rising.specs.Search.{IsCircuit}

-- one edge leads to where the other leads from
pub record IsJoined (edges : List Edge) (j k : ℕ) : Type 0 where
  pub first : j < length edges
  pub second : k < length edges
  pub joined : (edge_at edges j).to ≡ (edge_at edges k).from

-- edges by their places, each joined to the next, and the last one to the first
pub record IsEdgeCycle (edges : List Edge) (cycle : List ℕ) : Type 0 where
  pub some : 0 < length cycle
  pub each : (k : ℕ) → k + 1 < length cycle
      → IsJoined edges (slice_index cycle k) (slice_index cycle (k + 1))
  pub last : IsJoined edges (slice_index cycle (length cycle - 1)) (slice_index cycle 0)

-- a permutation of the numbers below n: one for each of n nodes, all different
pub record IsPermutationBelow (n : ℕ) (numbers : List ℕ) : Type 0 where
  pub size : length numbers ≡ n
  pub low : (x : ℕ) → x < n → slice_index numbers x < n
  pub apart : (x y : ℕ) → x < n → y < n → slice_index numbers x ≡ slice_index numbers y → x ≡ y

-- numbers that rise along each edge, or a cycle
abbrev pub IsOrderOrCycle : {A : Type 0} → ℕ → List Edge → Found A → Type 0
IsOrderOrCycle nodes edges (Rising numbers) =
    IsPermutationBelow nodes numbers.items × RisesOnEdges edges (slice_index numbers.items)
IsOrderOrCycle nodes edges (Cycle cycle) = IsEdgeCycle edges cycle.items

-- numbers that rise along each edge, or nodes that lead around
abbrev pub IsOrderOrCircuit : {A : Type 0} → Digraph → Searched A → Type 0
IsOrderOrCircuit g (searched.Rising numbers) =
    IsPermutationBelow g.nodes numbers.items × RisesAlong g (slice_index numbers.items)
IsOrderOrCircuit g (searched.Circuit looks) = IsCircuit g looks.items
