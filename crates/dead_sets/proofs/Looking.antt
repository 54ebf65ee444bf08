-- The cases that packets can leave by one channel are closed, one after the other; and all channels are
-- struck out that can be.
use Rattle.std.proofs.Common.{◌≡◌, ◌≢◌, inl, inr, ℕ, suc, ◌+◌, ◌<◌, ◌≤◌, true, List, length, refl, sym, ◌∙◌, ap, subst, arith, eq-eqb}
use Rattle.std.specs.Prelude.{slice_index}
use Rattle.std.proofs.lemmas.Bool.{cases_eq, cases_lt, eqb-true}
use Rattle.rising.specs.declared.edge.Edge.{Edge}
use Rattle.rising.specs.Graph.{edge_at, digraph_of, EdgesAreWithin}
use Rattle.rising.specs.Chains.{IsNextColumn}
use Rattle.network_adaptive.specs.Flags.{IsEdgeOf}
use Rattle.network_adaptive.proofs.Puts.{within_edges}
use Rattle.dead_sets.specs.Cases.{AreCases}
use Rattle.dead_sets.specs.Peeling.{not_zero, AreCounts, AreZeros, IsPeeling, AreClosedBy, ClosesCase, IsPeeled}
use Rattle.dead_sets.proofs.Counting.{times_some, times_from}
use Rattle.dead_sets.proofs.Closing.{Extends, extends_same, extends_then, leaves_wider, HasClosed, has_closed}

pub cases_within : (count nodes : ℕ) (at : List ℕ) (edges : List Edge) → AreCases count at edges → count ≤ nodes → length at ≤ nodes → EdgesAreWithin nodes edges
cases_within count nodes at edges cases wide long = within_edges nodes edges (λ x y e.
    let low = cases.from x y e in let lower = cases.to x y e in (omega arith, omega arith))

-- some cases that packets can leave by channel y, at a place of the order, are closed
pub record IsLooking (count : ℕ) (at : List ℕ) (edges : List Edge) (place y : ℕ) (left0 order0 : List ℕ) (k : ℕ) (opened left order : List ℕ) : Type 0 where
  pub state : IsPeeling count at edges (suc place) opened left order
  pub before : AreClosedBy count at edges place opened order
  pub part : (j : ℕ) → j < k → j < length edges → (edge_at edges j).from ≡ y → slice_index opened (edge_at edges j).to ≡ count
  pub here : slice_index order place ≡ y
  pub within : place < length order
  pub low : k ≤ length edges
  pub from : k < length edges → (edge_at edges k).from ≡ y
  pub extends : Extends order0 order
  pub fewer : not_zero left + length order ≤ not_zero left0 + length order0

module _ (count : ℕ) (at : List ℕ) (edges : List Edge) (cases : AreCases count at edges) where
  from_leads : (nodes y k : ℕ) → (digraph_of nodes edges).leads y k ≡ true → (edge_at edges k).from ≡ y
  from_leads nodes y k e = eqb-true (edge_at edges k).from y e

  leads_from : (nodes y k : ℕ) → (edge_at edges k).from ≡ y → (digraph_of nodes edges).leads y k ≡ true
  leads_from nodes y k e = eq-eqb (edge_at edges k).from y e

  wider : (place : ℕ) (opened left order : List ℕ) → place < length order → IsPeeling count at edges place opened left order
      → IsPeeling count at edges (suc place) opened left order
  wider place opened left order low s = record {
    size = s.size;
    counts = s.counts;
    same = s.same;
    closed = λ c inner e. leaves_wider edges order order place (suc place) c (extends_same order) s.inside (omega arith) (s.closed c inner e);
    zeros = s.zeros;
    before = s.before;
    inside = omega arith;
    few = s.few;
  }

  pub look_begin : (nodes place y k : ℕ) (opened left order : List ℕ) → place < length order → slice_index order place ≡ y
      → IsNextColumn (digraph_of nodes edges) y 0 k → IsPeeling count at edges place opened left order → AreClosedBy count at edges place opened order
      → IsLooking count at edges place y left order k opened left order
  look_begin nodes place y k opened left order low here next s closed = record {
    state = wider place opened left order low s;
    before = closed;
    part = λ j less inside from. absurd (next.none j (omega arith) less (leads_from nodes y j from));
    here = here;
    within = low;
    low = next.low;
    from = λ less. from_leads nodes y k (next.leads less);
    extends = extends_same order;
    fewer = omega arith;
  }

  pub look_more : (nodes place y k next c : ℕ) (left0 order0 opened left order opened' left' order' : List ℕ) → k < length edges
      → c ≡ (edge_at edges k).to → IsNextColumn (digraph_of nodes edges) y (k + 1) next → IsLooking count at edges place y left0 order0 k opened left order
      → ClosesCase (length left) c opened left order opened' left' order' → IsLooking count at edges place y left0 order0 next opened' left' order'
  look_more nodes place y k next c left0 order0 opened left order opened' left' order' low is n l one =
      let edge : IsEdgeOf edges (slice_index order place) c = record { place = k; low = low; from = l.from low ∙ sym l.here; to = sym is } in
      let size : length left ≡ count = l.state.counts.size in
      let r : HasClosed count at edges cases (suc place) c (cases.to (slice_index order place) c edge) opened left order opened' left' order' =
      has_closed count at edges cases (suc place) c (cases.to (slice_index order place) c edge) opened left order opened' left' order' l.state
      (record { place = place; low = omega arith; edge = edge })
      (subst (λ z. ClosesCase z c opened left order opened' left' order') size one) in
      let more : Extends order order' = r.extends in
      let w = l.within in
      record {
        state = r.state;
        before = λ m d less e. r.kept d (l.before m d less (subst (λ z. IsEdgeOf edges z d) (more.front m (omega arith)) e));
        part = λ j less inside from. elim (cases_lt j k) [
          | inl earlier ↦ r.kept (edge_at edges j).to (l.part j earlier inside from)
          | inr later ↦ elim (cases_eq j k) [
            | inl same ↦ ap (λ z. slice_index opened' (edge_at edges z).to) same ∙ (ap (slice_index opened') (sym is) ∙ r.here)
            | inr apart ↦ absurd (n.none j (omega arith) less (leads_from nodes y j from))
          ]
        ];
        here = more.front place w ∙ l.here;
        within = (let m = more.long in omega arith);
        low = n.low;
        from = λ less. from_leads nodes y next (n.leads less);
        extends = extends_then order0 order order' l.extends more;
        fewer = (let f = l.fewer in let g = r.fewer in omega arith);
      }

  pub look_end : (place y k : ℕ) (left0 order0 opened left order : List ℕ) → length edges ≤ k → IsLooking count at edges place y left0 order0 k opened left order
      → AreClosedBy count at edges (suc place) opened order
  look_end place y k left0 order0 opened left order high l m c low e = elim (cases_lt m place) [
    | inl less ↦ l.before m c less e
    | inr more ↦ (let same : m ≡ place = omega arith in
        let inside = e.low in
        let from : (edge_at edges e.place).from ≡ y = e.from ∙ (ap (slice_index order) same ∙ l.here) in
        ap (slice_index opened) (sym e.to) ∙ l.part e.place (omega arith) inside from)
  ]

  -- nothing is looked at
  pub peel_begin : (opened left order : List ℕ) → opened ≡ at → AreCounts count at left → AreZeros left order → not_zero left + length order ≤ length left
      → IsPeeling count at edges 0 opened left order
  peel_begin opened left order same counts zeros few = record {
    size = ap length same;
    counts = subst (λ (o : List ℕ). AreCounts count o left) (sym same) counts;
    same = λ c low still. ap (λ (o : List ℕ). slice_index o c) same;
    closed = λ c low e. (let o = cases.owners c low in let f = ap (λ (o : List ℕ). slice_index o c) same in absurd (omega arith));
    zeros = zeros;
    before = λ k c low inner e. (let z = zeros.zero k low in
        let b : slice_index order k < count = (let l = zeros.low k low in let s = counts.size in omega arith) in
        let t = times_some (slice_index order k) at c inner e in
        let f = counts.each (slice_index order k) b in absurd (omega arith));
    inside = omega arith;
    few = (let s = counts.size in omega arith);
  }

  -- all is looked at
  pub peel_end : (place : ℕ) (opened left order : List ℕ) → length order ≤ place → IsPeeling count at edges place opened left order
      → AreClosedBy count at edges place opened order → IsPeeled count at edges left order
  peel_end place opened left order high s closed = record {
    size = s.counts.size;
    zeros = s.zeros;
    few = (let f = s.few in omega arith);
    before = s.before;
    stuck = λ x low some.
        let e = s.counts.each x low in
        let r = times_from x opened (omega arith) in
        let c : ℕ = r.0 in
        let inner : c < length at = (let z = s.size in let l = r.1 in omega arith) in
        let open_at : slice_index opened c ≢ count = λ shut. (let b = r.2 in absurd (omega arith)) in (
          c,
          inner,
          sym (s.same c inner open_at) ∙ r.2,
          λ y less edge none.
              let w = s.zeros.all y (let z = s.counts.size in omega arith) none in
              let l = w.1 in
              open_at (closed w.0 c (omega arith) (subst (λ z. IsEdgeOf edges z c) (sym w.2) edge)),
        );
  }

-- what closing a case asks for
module _ (count : ℕ) (at : List ℕ) (edges : List Edge) (cases : AreCases count at edges) (place y k c : ℕ) (left0 order0 opened left order : List ℕ)
    (low : k < length edges) (is : c ≡ (edge_at edges k).to) (l : IsLooking count at edges place y left0 order0 k opened left order) where
  inner : c < length at
  inner = cases.to (slice_index order place) c (record { place = k; low = low; from = l.from low ∙ sym l.here; to = sym is })

  pub case_low : c < length opened
  case_low = let s = l.state.size in let i = inner in omega arith

  pub channel_low : slice_index opened c ≤ length left
  channel_low = let s = l.state.counts.size in elim (cases_eq (slice_index opened c) count) [
    | inl shut ↦ omega arith
    | inr still ↦ (let e = l.state.same c inner still in let o = cases.owners c inner in omega arith)
  ]

  pub some_case : slice_index opened c < length left → 0 < slice_index left (slice_index opened c)
  some_case less =
      let s = l.state.counts.size in
      let e = l.state.counts.each (slice_index opened c) (omega arith) in
      let t = times_some (slice_index opened c) opened c case_low refl in
      omega arith
