-- A case is closed: what is known of the channels that are struck out stays true.
use Rattle.std.proofs.Common.{◌≡◌, ◌≢◌, inl, inr, ℕ, ◌+◌, ◌-◌, ◌<◌, ◌≤◌, List, [], ◌∷◌, ◌++◌, length, set, refl, sym, ◌∙◌, ap, subst, arith}
use Rattle.std.specs.Prelude.{slice_index}
use Rattle.std.proofs.lemmas.Bool.{cases_eq, cases_lt}
use Rattle.std.proofs.lemmas.List.{get_or-set_same, get_or-set_other, set-get_or, length-set, length_push, get_or_push, get_or_append_left}
use Rattle.rising.specs.declared.edge.Edge.{Edge}
use Rattle.network_adaptive.specs.Flags.{IsEdgeOf}
use Rattle.dead_sets.specs.Cases.{AreCases}
use Rattle.dead_sets.specs.Peeling.{times, not_zero, AreCounts, AreZeros, LeavesBefore, IsPeeling, ClosesCase}
use Rattle.dead_sets.proofs.Counting.{times_some, times_less, times_other, zero_more, zero_same}

-- a longer order
pub record Extends (order longer : List ℕ) : Type 0 where
  pub long : length order ≤ length longer
  pub front : (k : ℕ) → k < length order → slice_index longer k ≡ slice_index order k

pub extends_same : (order : List ℕ) → Extends order order
extends_same order = record { long = omega arith; front = λ k low. refl }

pub extends_push : (order : List ℕ) (x : ℕ) → Extends order (order ++ x ∷ [])
extends_push order x = record {
  long = (let n = length_push order x in omega arith);
  front = λ k low. get_or_append_left order (x ∷ []) 0 k low;
}

pub extends_then : (a b c : List ℕ) → Extends a b → Extends b c → Extends a c
extends_then a b c p q = record {
  long = (let l = p.long in let m = q.long in omega arith);
  front = λ k low. q.front k (let l = p.long in omega arith) ∙ p.front k low;
}

pub leaves_wider : (edges : List Edge) (order longer : List ℕ) (m n c : ℕ) → Extends order longer → m ≤ length order → m ≤ n → LeavesBefore edges order m c
    → LeavesBefore edges longer n c
leaves_wider edges order longer m n c more inside wide l =
    let low = l.low in
    record {
      place = l.place;
      low = omega arith;
      edge = subst (λ y. IsEdgeOf edges y c) (sym (more.front l.place (omega arith))) l.edge;
    }

module _ (count : ℕ) (at : List ℕ) (edges : List Edge) (cases : AreCases count at edges) (looked c : ℕ) (inside : c < length at) where
  -- what is known once a case is closed
  pub record HasClosed (opened left order opened' left' order' : List ℕ) : Type 0 where
    pub state : IsPeeling count at edges looked opened' left' order'
    pub kept : (d : ℕ) → slice_index opened d ≡ count → slice_index opened' d ≡ count
    pub here : slice_index opened' c ≡ count
    pub extends : Extends order order'
    pub fewer : not_zero left' + length order' ≤ not_zero left + length order

  module _ (opened left order : List ℕ) (s : IsPeeling count at edges looked opened left order) (leaves : LeavesBefore edges order looked c)
      (open_at : slice_index opened c ≢ count) where
    abbrev x : ℕ
    x = slice_index opened c

    abbrev opened' : List ℕ
    opened' = set opened c count

    abbrev left' : List ℕ
    left' = set left x (slice_index left x - 1)

    in_opened : c < length opened
    in_opened = let e = s.size in omega arith

    below : x < count
    below = subst (λ z. z < count) (sym (s.same c inside open_at)) (cases.owners c inside)

    in_left : x < length left
    in_left = let e = s.counts.size in let b = below in omega arith

    positive : 0 < slice_index left x
    positive = let e = s.counts.each x below in let t = times_some x opened c in_opened refl in omega arith

    closed_here : slice_index opened' c ≡ count
    closed_here = get_or-set_same opened c count 0 in_opened

    other : (d : ℕ) → d ≢ c → slice_index opened' d ≡ slice_index opened d
    other d apart = get_or-set_other opened c d count 0 apart

    left_here : slice_index left' x ≡ slice_index left x - 1
    left_here = get_or-set_same left x (slice_index left x - 1) 0 in_left

    left_other : (z : ℕ) → z ≢ x → slice_index left' z ≡ slice_index left z
    left_other z apart = get_or-set_other left x z (slice_index left x - 1) 0 apart

    counts : AreCounts count opened' left'
    counts = record {
      size = length-set left x (slice_index left x - 1) ∙ s.counts.size;
      each = λ z low. elim (cases_eq z x) [
        | inl same ↦
            let t = times_less x opened c count in_opened refl (λ e. let b = below in absurd (omega arith)) in
            let e = s.counts.each x below in
            let h = left_here in
            let p = positive in
            subst (λ v. slice_index left' v ≡ times v opened') (sym same) (omega arith)
        | inr apart ↦
            left_other z apart
            ∙ (s.counts.each z low ∙ sym (times_other z opened c count in_opened (λ e. apart (sym e)) (λ e. absurd (omega arith))))
      ];
    }

    same : (d : ℕ) → d < length at → slice_index opened' d ≢ count → slice_index opened' d ≡ slice_index at d
    same d low still = elim (cases_eq d c) [
      | inl here ↦ absurd (still (ap (slice_index opened') here ∙ closed_here))
      | inr apart ↦ other d apart ∙ s.same d low (λ e. still (other d apart ∙ e))
    ]

    kept : (d : ℕ) → slice_index opened d ≡ count → slice_index opened' d ≡ count
    kept d e = elim (cases_eq d c) [
      | inl here ↦ ap (slice_index opened') here ∙ closed_here
      | inr apart ↦ other d apart ∙ e
    ]

    module _ (order' : List ℕ) (more : Extends order order') where
      closed : (d : ℕ) → d < length at → slice_index opened' d ≡ count → LeavesBefore edges order' looked d
      closed d low e = elim (cases_eq d c) [
        | inl here ↦ subst (λ v. LeavesBefore edges order' looked v) (sym here) (leaves_wider edges order order' looked looked c more s.inside (omega arith) leaves)
        | inr apart ↦ leaves_wider edges order order' looked looked d more s.inside (omega arith) (s.closed d low (sym (other d apart) ∙ e))
      ]

    -- channels struck out before aren't this one
    not_struck : (k : ℕ) → k < length order → slice_index order k ≢ x
    not_struck k low e =
        let z = s.zeros.zero k low in
        let f : slice_index left (slice_index order k) ≡ slice_index left x = ap (slice_index left) e in
        let p = positive in
        absurd (omega arith)

    -- the last open case of the channel
    module _ (last : slice_index left x ≡ 1) where
      abbrev order' : List ℕ
      order' = order ++ x ∷ []

      more : Extends order order'
      more = extends_push order x

      size : length order' ≡ length order + 1
      size = length_push order x

      end : slice_index order' (length order) ≡ x
      end = get_or_push order x 0 (length order) refl

      zero_here : slice_index left' x ≡ 0
      zero_here = let h = left_here in omega arith

      zeros : AreZeros left' order'
      zeros = record {
        zero = λ k low. elim (cases_lt k (length order)) [
          | inl less ↦ ap (slice_index left') (more.front k less) ∙ (left_other (slice_index order k) (not_struck k less) ∙ s.zeros.zero k less)
          | inr high ↦ (let n = size in let here : k ≡ length order = omega arith in
              ap (slice_index left') (ap (slice_index order') here ∙ end) ∙ zero_here)
        ];
        low = λ k low. elim (cases_lt k (length order)) [
          | inl less ↦ (let n = length-set left x (slice_index left x - 1) in let l = s.zeros.low k less in let e = more.front k less in omega arith)
          | inr high ↦ (let n = size in let here : k ≡ length order = omega arith in
              let e = ap (slice_index order') here ∙ end in let m = length-set left x (slice_index left x - 1) in let i = in_left in omega arith)
        ];
        all = λ z low e. elim (cases_eq z x) [
          | inl here ↦ (length order, (let n = size in omega arith), end ∙ sym here)
          | inr apart ↦ (let m = length-set left x (slice_index left x - 1) in
              let r = s.zeros.all z (omega arith) (sym (left_other z apart) ∙ e) in
              let l = r.1 in let n = size in
              (r.0, omega arith, more.front r.0 l ∙ r.2))
        ];
      }

      before : (k d : ℕ) → k < length order' → d < length at → slice_index at d ≡ slice_index order' k → LeavesBefore edges order' k d
      before k d low inner e = elim (cases_lt k (length order)) [
        | inl less ↦ leaves_wider edges order order' k k d more (omega arith) (omega arith) (s.before k d less inner (e ∙ more.front k less))
        | inr high ↦ (let n = size in let here : k ≡ length order = omega arith in
            let owner : slice_index at d ≡ x = e ∙ (ap (slice_index order') here ∙ end) in
            elim (cases_eq (slice_index opened' d) count) [
              | inl shut ↦ (let i = s.inside in leaves_wider edges order' order' looked k d (extends_same order') (omega arith) (omega arith) (closed order' more d inner shut))
              | inr still ↦ (let i : d < length opened' = (let a = length-set opened c count in let b = s.size in omega arith) in
                  let t = times_some x opened' d i (same d inner still ∙ owner) in
                  let f = counts.each x below in let z = zero_here in absurd (omega arith))
            ])
      ]

      pub closed_last : HasClosed opened left order opened' left' order'
      closed_last = record {
        state = record {
          size = length-set opened c count ∙ s.size;
          counts = counts;
          same = same;
          closed = closed order' more;
          zeros = zeros;
          before = before;
          inside = (let i = s.inside in let n = size in omega arith);
          few = (let f = s.few in let n = size in let z = zero_more left x (slice_index left x - 1) in_left (λ e. absurd (omega arith)) (omega arith) in omega arith);
        };
        kept = kept;
        here = closed_here;
        extends = more;
        fewer = (let n = size in let z = zero_more left x (slice_index left x - 1) in_left (λ e. absurd (omega arith)) (omega arith) in omega arith);
      }

    -- another one is open
    module _ (others : slice_index left x ≢ 1) where
      some_left : slice_index left' x ≢ 0
      some_left e = let h = left_here in let p = positive in let one : slice_index left x ≡ 1 = omega arith in absurd (others one)

      still : not_zero left' ≡ not_zero left
      still = zero_same left x (slice_index left x - 1) in_left (λ e. let p = positive in absurd (omega arith)) (λ e. some_left (left_here ∙ e))

      pub closed_more : HasClosed opened left order opened' left' order
      closed_more = record {
        state = record {
          size = length-set opened c count ∙ s.size;
          counts = counts;
          same = same;
          closed = closed order (extends_same order);
          zeros = record {
            zero = λ k low. left_other (slice_index order k) (not_struck k low) ∙ s.zeros.zero k low;
            low = λ k low. (let m = length-set left x (slice_index left x - 1) in let l = s.zeros.low k low in omega arith);
            all = λ z low e. elim (cases_eq z x) [
              | inl here ↦ absurd (some_left (ap (slice_index left') (sym here) ∙ e))
              | inr apart ↦ s.zeros.all z (let m = length-set left x (slice_index left x - 1) in omega arith) (sym (left_other z apart) ∙ e)
            ];
          };
          before = s.before;
          inside = s.inside;
          few = (let f = s.few in let e = still in omega arith);
        };
        kept = kept;
        here = closed_here;
        extends = extends_same order;
        fewer = (let e = still in omega arith);
      }

  pub has_closed : (opened left order opened' left' order' : List ℕ) → IsPeeling count at edges looked opened left order → LeavesBefore edges order looked c
      → ClosesCase count c opened left order opened' left' order' → HasClosed opened left order opened' left' order'
  has_closed opened left order opened' left' order' s leaves c' = elim (cases_eq (slice_index opened c) count) [
    | inl shut ↦
        let same : opened' ≡ opened = c'.is_closed ∙ (ap (set opened c) (sym shut) ∙ set-get_or opened c 0) in
        let u = c'.unchanged shut in
        subst (λ (o : List ℕ). HasClosed opened left order o left' order') (sym same)
        (subst (λ (l : List ℕ). HasClosed opened left order opened l order') (sym u.0)
        (subst (λ (r : List ℕ). HasClosed opened left order opened left r) (sym u.1)
        (record { state = s; kept = λ d e. e; here = shut; extends = extends_same order; fewer = omega arith })))
    | inr open_at ↦
        subst (λ (o : List ℕ). HasClosed opened left order o left' order') (sym c'.is_closed)
        (subst (λ (l : List ℕ). HasClosed opened left order (set opened c count) l order') (sym (c'.is_counted open_at))
        (elim (cases_eq (slice_index left (slice_index opened c)) 1) [
          | inl last ↦ subst (λ (r : List ℕ). HasClosed opened left order (set opened c count) (set left (slice_index opened c) (slice_index left (slice_index opened c) - 1)) r)
              (sym (c'.last open_at last)) (closed_last opened left order s leaves open_at last)
          | inr others ↦ subst (λ (r : List ℕ). HasClosed opened left order (set opened c count) (set left (slice_index opened c) (slice_index left (slice_index opened c) - 1)) r)
              (sym (c'.more open_at others)) (closed_more opened left order s leaves open_at others)
        ]))
  ]
