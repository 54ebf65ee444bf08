-- The source-destination pairs as edges that are chained.
use Rattle.std.proofs.Common.{◌≡◌, ◌≢◌, ◌⊎◌, inl, inr, ℕ, ◌+◌, ◌<◌, ◌≤◌, Bool, true, List, [], length, map, set, refl, sym, ◌∙◌, ap, subst, arith, eq-eqb}
use Rattle.std.proofs.lemmas.Bool.{cases_lt, cases_eq, eqb-true}
use Rattle.std.proofs.lemmas.List.{get_or-map, length-map}
use Rattle.rising.specs.declared.edge.Edge.{Edge}
use Rattle.rising.specs.Graph.{Digraph, edge_at, digraph_of, EdgesAreWithin}
use Rattle.rising.specs.Chains.{IsNextColumn}
use Rattle.network_judge.specs.declared.table.Join.{Join}
use Rattle.network_judge.specs.Table.{Table, table_of, joins_of}
use Rattle.network_judge.specs.Verdicts.{join_at}
use Rattle.network_judge.proofs.Marking.{joined_at, place_of}
use Rattle.network_adaptive.specs.Edges.{pair_edge}
use Rattle.network_adaptive.specs.Longest.{IsMostOf}
use Rattle.network_adaptive.proofs.Begins.{HasBegunSo, none_begun, one_begun, skip_begun}

-- the pairs below k to channel j are looked at
pub record IsMostSo (joins : List Join) (j : ℕ) (far : ℕ → ℕ) (least k most : ℕ) : Type 0 where
  pub from : least ≤ most
  pub all : (q : ℕ) → q < k → (join_at (table_of [] joins []) q).to ≡ j → far (join_at (table_of [] joins []) q).from ≤ most
  pub some : (most ≡ least) ⊎ ((i : ℕ) × (joins_of (table_of [] joins []) i j ≡ true) × (most ≡ far i))

module _ (joins : List Join) where
  abbrev t : Table
  t = table_of [] joins []

  pair_at : (k : ℕ) → k < length joins → edge_at (map pair_edge joins) k ≡ pair_edge (join_at t k)
  pair_at k low = get_or-map pair_edge joins k (record { from = 0; to = 0 }) (record { from = 0; to = 0 }) low

  module _ (edges : List Edge) (same : edges ≡ map pair_edge joins) where
    pub long : length edges ≡ length joins
    long = ap length same ∙ length-map joins pair_edge

    edge_is : (k : ℕ) → k < length joins → edge_at edges k ≡ pair_edge (join_at t k)
    edge_is k low = ap (λ (es : List Edge). edge_at es k) same ∙ pair_at k low

    -- the ends of the pairs are nodes
    pub pairs_within : (nodes : ℕ) → ((i j : ℕ) → joins_of t i j ≡ true → i < nodes) → ((i j : ℕ) → joins_of t i j ≡ true → j < nodes) → EdgesAreWithin nodes edges
    pairs_within nodes senders receivers =
        let size = long in
        record {
          from = λ k low. subst (λ (e : Edge). e.from < nodes) (sym (edge_is k (omega arith)))
              (receivers (join_at t k).from (join_at t k).to (joined_at t k (join_at t k).from (join_at t k).to (omega arith) refl refl));
          to = λ k low. subst (λ (e : Edge). e.to < nodes) (sym (edge_is k (omega arith)))
              (senders (join_at t k).from (join_at t k).to (joined_at t k (join_at t k).from (join_at t k).to (omega arith) refl refl));
        }

    -- an edge leads to the source of its pair
    source : (k : ℕ) → k < length joins → (edge_at edges k).to ≡ (join_at t k).from
    source k low = ap (λ (e : Edge). e.to) (edge_is k low)

    module _ (nodes j : ℕ) where
      abbrev graph : Digraph
      graph = digraph_of nodes edges

      -- the pairs that are passed over go elsewhere
      others : (from to q : ℕ) → IsNextColumn graph j from to → from ≤ q → q < to → (join_at t q).to ≢ j
      others from to q n high low = λ is. (
          let size = long in
          let end : to ≤ length edges = n.low in
          let inside : q < length joins = omega arith in
          n.none q high low (eq-eqb (edge_at edges q).from j (ap (λ (e : Edge). e.from) (edge_is q inside) ∙ is)))

      -- the next one goes there
      pub goes_there : (from to : ℕ) → IsNextColumn graph j from to → to < length joins → (join_at t to).to ≡ j
      goes_there from to n low =
          let size = long in
          let inside : to < length edges = omega arith in
          sym (ap (λ (e : Edge). e.from) (edge_is to low)) ∙ eqb-true (edge_at edges to).from j (n.leads inside)

      pub begun_first : (k : ℕ) (old : List Bool) → IsNextColumn graph j 0 k → HasBegunSo joins j k old old
      begun_first k old n = skip_begun joins j 0 k old old (omega arith) (λ q high low. others 0 k q n high low) (none_begun joins j old)

      begun_next : (k next : ℕ) (old seen : List Bool) (count : ℕ) → k < length joins → (join_at t k).to ≡ j → length old ≡ count
          → (join_at t k).from < count → IsNextColumn graph j (k + 1) next → HasBegunSo joins j k old seen
          → HasBegunSo joins j next old (set seen (join_at t k).from true)
      begun_next k next old seen count low to size inner n h =
          skip_begun joins j (k + 1) next old (set seen (join_at t k).from true) n.high (λ q high less. others (k + 1) next q n high less)
          (one_begun joins j k (k + 1) old seen count (omega arith) low to size inner h)

      pub begun_by : (k next end : ℕ) (old seen : List Bool) (count : ℕ) → k < length joins → (join_at t k).to ≡ j → length old ≡ count
          → end ≡ (edge_at edges k).to → end < count → IsNextColumn graph j (k + 1) next → HasBegunSo joins j k old seen
          → HasBegunSo joins j next old (set seen end true)
      begun_by k next end old seen count low to size is inner n h =
          let same : end ≡ (join_at t k).from = is ∙ source k low in
          subst (λ z. HasBegunSo joins j next old (set seen z true)) (sym same)
          (begun_next k next old seen count low to size (subst (λ z. z < count) same inner) n h)

      module _ (far : ℕ → ℕ) (least : ℕ) where
        pub most_first : (k : ℕ) → IsNextColumn graph j 0 k → IsMostSo joins j far least k least
        most_first k n = record {
          from = omega arith;
          all = λ q low is. absurd (others 0 k q n (omega arith) low is);
          some = inl refl;
        }

        most_next : (k next most new : ℕ) → k < length joins → (join_at t k).to ≡ j → IsNextColumn graph j (k + 1) next
            → most ≤ new → far (join_at t k).from ≤ new → (new ≡ most) ⊎ (new ≡ far (join_at t k).from)
            → IsMostSo joins j far least k most → IsMostSo joins j far least next new
        most_next k next most new low to n above here is m =
            let from = m.from in
            record {
              from = omega arith;
              all = λ q less there. elim (cases_lt q k) [
                | inl before ↦ (let old = m.all q before there in omega arith)
                | inr more ↦ elim (cases_eq q k) [
                  | inl same_place ↦ subst (λ z. far (join_at t z).from ≤ new) (sym same_place) here
                  | inr beyond ↦ absurd (others (k + 1) next q n (omega arith) less there)
                ]
              ];
              some = elim is [
                | inl old ↦ subst (λ z. (z ≡ least) ⊎ ((i : ℕ) × (joins_of t i j ≡ true) × (z ≡ far i))) (sym old) m.some
                | inr this ↦ inr ((join_at t k).from, joined_at t k (join_at t k).from j low refl to, this)
              ];
            }

        pub most_by : (k next end most new : ℕ) → k < length joins → (join_at t k).to ≡ j → IsNextColumn graph j (k + 1) next
            → end ≡ (edge_at edges k).to → most ≤ new → far end ≤ new → (new ≡ most) ⊎ (new ≡ far end)
            → IsMostSo joins j far least k most → IsMostSo joins j far least next new
        most_by k next end most new low to n at above here is m =
            let same : end ≡ (join_at t k).from = at ∙ source k low in
            most_next k next most new low to n above (subst (λ z. far z ≤ new) same here) (subst (λ z. (new ≡ most) ⊎ (new ≡ far z)) same is) m

        pub most_last : (k most : ℕ) → length joins ≤ k → IsMostSo joins j far least k most → IsMostOf joins j far least most
        most_last k most e m = record {
          from = m.from;
          all = λ x joined. (let at = place_of t x j joined in
              let low = at.1.below in
              subst (λ z. far z ≤ most) at.1.from (m.all at.0 (omega arith) at.1.to));
          some = m.some;
        }
