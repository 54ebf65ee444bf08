-- Edges turned round.
use Rattle.std.proofs.Common.{◌≡◌, inl, inr, ⊎_elim, ℕ, suc, ◌+◌, ◌<◌, ◌≤◌, List, [], length, sym, ◌∙◌, ap, arith, eq-eqb}
use Rattle.std.proofs.lemmas.Bool.{cases_lt, cases_eq}
use Rattle.rising.specs.declared.edge.Edge.{Edge}
use Rattle.rising.specs.Graph.{edge_at, digraph_of, EdgesAreWithin}
use Rattle.rising.specs.Chains.{IsNextColumn}
use Rattle.network_adaptive.specs.Flags.{IsEdgeOf, HasPut}
use Rattle.network_adaptive.specs.Edges.{AreReversed, AreSame}
use Rattle.network_adaptive.proofs.Puts.{IsThis, put_none, put_then, put_map, no_edge_of, edge_within, within_edges}

module _ (nodes : ℕ) (edges : List Edge) (x : ℕ) where
  -- an edge from x at a place below k, turned round
  pub record IsTurnedSo (k u v : ℕ) : Type 0 where
    pub is : v ≡ x
    pub edge : IsEdgeOf edges v u
    pub low : edge.place < k

  pub turned_begin : (k : ℕ) (old : List Edge) → IsNextColumn (digraph_of nodes edges) x 0 k → HasPut (IsTurnedSo k) old old
  turned_begin k old n = put_none (IsTurnedSo k) old (λ u v t. (let low = t.low in
      n.none t.edge.place (omega arith) t.low (eq-eqb (edge_at edges t.edge.place).from x (t.edge.from ∙ t.is))))

  pub turned_more : (k next : ℕ) (old mid new : List Edge) → k < length edges → (edge_at edges k).from ≡ x
      → IsNextColumn (digraph_of nodes edges) x (k + 1) next → HasPut (IsTurnedSo k) old mid
      → HasPut (IsThis (edge_at edges k).to x) mid new → HasPut (IsTurnedSo next) old new
  turned_more k next old mid new low from n p q =
      let high = n.high in
      put_then (IsTurnedSo k) (IsThis (edge_at edges k).to x) (IsTurnedSo next) old mid new
      (λ u v t. record { is = t.is; edge = t.edge; low = (let l = t.low in omega arith) })
      (λ u v t. record {
        is = t.1;
        edge = record { place = k; low = low; from = from ∙ sym t.1; to = sym t.0 };
        low = omega arith;
      })
      (λ u v t. elim (cases_lt t.edge.place k) [
        | inl less ↦ inl (record { is = t.is; edge = t.edge; low = less })
        | inr more ↦ elim (cases_eq t.edge.place k) [
          | inl here ↦ inr (sym t.edge.to ∙ ap (λ z. (edge_at edges z).to) here, t.is)
          | inr beyond ↦ absurd (n.none t.edge.place (omega arith) t.low (eq-eqb (edge_at edges t.edge.place).from x (t.edge.from ∙ t.is)))
        ]
      ])
      p q

  pub turned_end : (k : ℕ) (old new : List Edge) → length edges ≤ k → HasPut (IsTurnedSo k) old new
      → HasPut (λ u v. (v ≡ x) × IsEdgeOf edges v u) old new
  turned_end k old new e p = put_map (IsTurnedSo k) (λ u v. (v ≡ x) × IsEdgeOf edges v u) old new (λ u v t. (t.is, t.edge))
      (λ u v t. record { is = t.0; edge = t.1; low = (let l = t.1.low in omega arith) })
      p

-- the edges from nodes below k, turned round
abbrev pub IsFromBelow : List Edge → ℕ → ℕ → ℕ → Type 0
IsFromBelow edges k u v = (v < k) × IsEdgeOf edges v u

pub all_begin : (edges old : List Edge) → HasPut (IsFromBelow edges 0) old old
all_begin edges old = put_none (IsFromBelow edges 0) old (λ u v t. (let l = t.0 in omega arith))

pub all_more : (edges : List Edge) (x m : ℕ) (old mid new : List Edge) → m ≡ suc x → HasPut (IsFromBelow edges x) old mid
    → HasPut (λ u v. (v ≡ x) × IsEdgeOf edges v u) mid new → HasPut (IsFromBelow edges m) old new
all_more edges x m old mid new e p q = put_then (IsFromBelow edges x) (λ u v. (v ≡ x) × IsEdgeOf edges v u) (IsFromBelow edges m) old mid new
    (λ u v t. (let l = t.0 in omega arith, t.1))
    (λ u v t. (let same = t.0 in omega arith, t.1))
    (λ u v t. elim (cases_lt v x) [
      | inl less ↦ inl (less, t.1)
      | inr high ↦ inr (let l = t.0 in omega arith, t.1)
    ])
    p q

pub all_end : (edges new : List Edge) (nodes m : ℕ) → m ≡ nodes → EdgesAreWithin nodes edges → HasPut (IsFromBelow edges m) [] new → AreReversed edges new
all_end edges new nodes m e within p = record {
  all = λ x y is. p.all y x (let low = (edge_within nodes edges within x y is).0 in omega arith, is);
  only = λ x y is. ⊎_elim
      (λ (a : IsEdgeOf [] y x). absurd (no_edge_of y x a))
      (λ (b : IsFromBelow edges m y x). b.1)
      (p.only y x is);
}

pub turned_within : (nodes : ℕ) (edges half : List Edge) → EdgesAreWithin nodes edges → AreReversed edges half → EdgesAreWithin nodes half
turned_within nodes edges half within t = within_edges nodes half (λ x y e.
    (let r = edge_within nodes edges within y x (t.only y x e) in (r.1, r.0)))

pub turned_twice : (edges half whole : List Edge) → AreReversed edges half → AreReversed half whole → AreSame edges whole
turned_twice edges half whole s t = record {
  all = λ x y e. t.all y x (s.all x y e);
  only = λ x y e. s.only x y (t.only y x e);
}

pub same_self : (edges : List Edge) → AreSame edges edges
same_self edges = record { all = λ x y e. e; only = λ x y e. e }
