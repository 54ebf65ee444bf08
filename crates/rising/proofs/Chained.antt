-- Chains of the edges from each node, from one edge on.
use Rattle.std.proofs.Common.{◌≡◌, inl, inr, ℕ, ◌+◌, ◌<◌, ◌≤◌, true, List, length, set, replicate, sym, ◌∙◌, ap, subst, arith}
use Rattle.std.specs.Prelude.{slice_index}
use Rattle.std.proofs.lemmas.Bool.{cases_eq, eq-eqb, eqb-true}
use Rattle.std.proofs.lemmas.List.{length-set, length-replicate, get_or-replicate, get_or-set_same, get_or-set_other}
use Rattle.rising.specs.declared.edge.Edge.{Edge}
use Rattle.rising.specs.Graph.{Digraph, edge_at, digraph_of, EdgesAreWithin}
use Rattle.rising.specs.Chains.{IsNextColumn, AreChains}

-- chains of the edges from one on
pub record AreChainsFrom (g : Digraph) (left : ℕ) (heads nexts : List ℕ) : Type 0 where
  pub end : left ≤ g.columns
  pub heads_size : length heads ≡ g.nodes
  pub nexts_size : length nexts ≡ g.columns
  pub each_head : (x : ℕ) → x < g.nodes → IsNextColumn g x left (slice_index heads x)
  pub each_next : (x j : ℕ) → x < g.nodes → left ≤ j → j < g.columns → g.leads x j ≡ true → IsNextColumn g x (j + 1) (slice_index nexts j)

-- of no edge
pub none_chained : (nodes : ℕ) (edges : List Edge) (heads nexts : List ℕ) → heads ≡ replicate nodes (length edges)
    → nexts ≡ replicate (length edges) (length edges) → AreChainsFrom (digraph_of nodes edges) (length edges) heads nexts
none_chained nodes edges heads nexts h n = record {
  end = omega arith;
  heads_size = ap length h ∙ length-replicate nodes (length edges);
  nexts_size = ap length n ∙ length-replicate (length edges) (length edges);
  each_head = λ x l. (let e : slice_index heads x ≡ length edges = ap (λ z. slice_index z x) h ∙ get_or-replicate nodes x (length edges) 0 l in
      record { high = omega arith; low = omega arith; leads = λ m. absurd (omega arith); none = λ j k m is. absurd (omega arith) });
  each_next = λ x j l m k is. absurd (omega arith);
}

-- of one edge more
pub one_more : (nodes : ℕ) (edges : List Edge) (left from : ℕ) (heads nexts : List ℕ) → EdgesAreWithin nodes edges
    → AreChainsFrom (digraph_of nodes edges) (left + 1) heads nexts → from ≡ (edge_at edges left).from
    → AreChainsFrom (digraph_of nodes edges) left (set heads from left) (set nexts left (slice_index heads from))
one_more nodes edges left from heads nexts within c is =
    let g : Digraph = digraph_of nodes edges in
    let low = c.end in
    let heads_size = c.heads_size in
    let nexts_size = c.nexts_size in
    let inside : from < nodes = subst (λ z. z < nodes) (sym is) (within.from left (omega arith)) in
    let leads : g.leads from left ≡ true = eq-eqb (edge_at edges left).from from (sym is) in
    record {
      end = omega arith;
      heads_size = length-set heads from left ∙ heads_size;
      nexts_size = length-set nexts left (slice_index heads from) ∙ nexts_size;
      each_head = λ x l. elim (cases_eq x from) [
        | inl same ↦ (let e : slice_index (set heads from left) x ≡ left = ap (slice_index (set heads from left)) same ∙ get_or-set_same heads from left 0 (omega arith) in
            record {
              high = omega arith;
              low = omega arith;
              leads = λ m. subst (λ z. g.leads x z ≡ true) (sym e) (subst (λ z. g.leads z left ≡ true) (sym same) leads);
              none = λ j k m on. absurd (omega arith);
            })
        | inr apart ↦ (let old = c.each_head x l in
            let e : slice_index (set heads from left) x ≡ slice_index heads x = get_or-set_other heads from x left 0 apart in
            let more : IsNextColumn g x left (slice_index heads x) = record {
              high = let high = old.high in omega arith;
              low = old.low;
              leads = old.leads;
              none = λ j k m on. elim (cases_eq j left) [
                | inl first ↦ apart (sym (eqb-true (edge_at edges left).from x (subst (λ z. g.leads x z ≡ true) first on)) ∙ sym is)
                | inr other ↦ old.none j (omega arith) m on
              ];
            } in
            subst (λ z. IsNextColumn g x left z) (sym e) more)
      ];
      each_next = λ x j l m k on. elim (cases_eq j left) [
        | inl same ↦ (let e : slice_index (set nexts left (slice_index heads from)) j ≡ slice_index heads from =
            ap (slice_index (set nexts left (slice_index heads from))) same ∙ get_or-set_same nexts left (slice_index heads from) 0 (omega arith) in
            let who : from ≡ x = is ∙ eqb-true (edge_at edges left).from x (subst (λ z. g.leads x z ≡ true) same on) in
            let old : IsNextColumn g x (left + 1) (slice_index heads from) = subst (λ z. IsNextColumn g x (left + 1) (slice_index heads z)) (sym who) (c.each_head x l) in
            subst (λ z. IsNextColumn g x (z + 1) (slice_index (set nexts left (slice_index heads from)) j)) (sym same)
            (subst (λ z. IsNextColumn g x (left + 1) z) (sym e) old))
        | inr other ↦ subst (λ z. IsNextColumn g x (j + 1) z) (sym (get_or-set_other nexts left j (slice_index heads from) 0 other)) (c.each_next x j l (omega arith) k on)
      ];
    }

-- of all
pub all_chained : (g : Digraph) (left : ℕ) (heads nexts : List ℕ) → AreChainsFrom g left heads nexts → left ≡ 0 → AreChains g heads nexts
all_chained g left heads nexts c e = record {
  heads_size = c.heads_size;
  nexts_size = c.nexts_size;
  each_head = λ x l. subst (λ z. IsNextColumn g x z (slice_index heads x)) e (c.each_head x l);
  each_next = λ x j l k on. c.each_next x j l (omega arith) k on;
}
