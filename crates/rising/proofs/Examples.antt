-- Worked graphs, one with numbers that rise and one with a cycle, against the definitions.
use Rattle.std.proofs.Common.{◌≡◌, ℕ, zero, suc, ◌+◌, ◌<◌, List, [], ◌∷◌, refl, sym, ◌∙◌, ap, arith}
use Rattle.std.specs.Prelude.{slice_index}
use Rattle.rising.specs.declared.edge.Edge.{Edge}
use Rattle.rising.specs.Graph.{edge_at, RisesOnEdges}
use Rattle.rising.specs.Found.{IsJoined, IsEdgeCycle, IsPermutationBelow}

abbrev edge : ℕ → ℕ → Edge
edge x y = record { from = x; to = y }

-- node 2 leads to nodes 0 and 1, and node 0 to node 1
abbrev edges : List Edge
edges = edge 0 1 ∷ edge 2 0 ∷ edge 2 1 ∷ []

abbrev numbers : List ℕ
numbers = 1 ∷ 2 ∷ 0 ∷ []

-- what holds of the first three numbers
below_three : (P : ℕ → Type 0) → P 0 → P 1 → P 2 → (x : ℕ) → x < 3 → P x
below_three P a b c zero low = a
below_three P a b c (suc zero) low = b
below_three P a b c (suc (suc zero)) low = c
below_three P a b c (suc (suc (suc x))) low = absurd (omega (arith, low))

-- its numbers rise, though the edges stand in another order
numbers_rise : RisesOnEdges edges (slice_index numbers)
numbers_rise = below_three (λ k. slice_index numbers (edge_at edges k).from < slice_index numbers (edge_at edges k).to)
    (omega arith) (omega arith) (omega arith)

-- and are a permutation: this list leads back from each number to its node
nodes_are_found : (x : ℕ) → x < 3 → slice_index (2 ∷ 0 ∷ 1 ∷ []) (slice_index numbers x) ≡ x
nodes_are_found = below_three (λ x. slice_index (2 ∷ 0 ∷ 1 ∷ []) (slice_index numbers x) ≡ x) refl refl refl

numbers_are_a_permutation : IsPermutationBelow 3 numbers
numbers_are_a_permutation = record {
  size = refl;
  low = below_three (λ x. slice_index numbers x < 3) (omega arith) (omega arith) (omega arith);
  apart = λ x y i j same. sym (nodes_are_found x i) ∙ ap (slice_index (2 ∷ 0 ∷ 1 ∷ [])) same ∙ nodes_are_found y j;
}

-- numbers of which two are alike rise along the edges too, and are no permutation
alike_are_none : IsPermutationBelow 3 (1 ∷ 2 ∷ 1 ∷ []) → ⊥
alike_are_none p = let same : 0 ≡ 2 = p.apart 0 2 (omega arith) (omega arith) refl in absurd (omega (arith, same))

-- with an edge back from node 1 to node 2 there is a cycle, of edges by their places
abbrev around : List Edge
around = edge 0 1 ∷ edge 2 0 ∷ edge 1 2 ∷ []

there_is_a_cycle : IsEdgeCycle around (0 ∷ 2 ∷ 1 ∷ [])
there_is_a_cycle = record {
  some = omega arith;
  each = joined;
  last = record { first = omega arith; second = omega arith; joined = refl };
}
  where
    joined : (k : ℕ) → k + 1 < 3 → IsJoined around (slice_index (0 ∷ 2 ∷ 1 ∷ []) k) (slice_index (0 ∷ 2 ∷ 1 ∷ []) (k + 1))
    joined zero low = record { first = omega arith; second = omega arith; joined = refl }
    joined (suc zero) low = record { first = omega arith; second = omega arith; joined = refl }
    joined (suc (suc k)) low = absurd (omega (arith, low))

-- the edges of a cycle in another order are no cycle: each must lead to where the next one begins
order_matters : IsEdgeCycle around (0 ∷ 1 ∷ 2 ∷ []) → ⊥
order_matters c =
    let step : 1 ≡ 2 = (c.each 0 (omega arith)).joined in absurd (omega (arith, step))

-- a path that doesn't close is none
path_is_no_cycle : IsEdgeCycle edges (1 ∷ 0 ∷ []) → ⊥
path_is_no_cycle c = let closed : 1 ≡ 2 = c.last.joined in absurd (omega (arith, closed))
