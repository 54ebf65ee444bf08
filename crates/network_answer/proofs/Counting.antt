-- What the marks of routes say of pairs and hops, and how long routes are.
use Rattle.std.proofs.Common.{◌≡◌, ◌≢◌, inl, inr, ℕ, zero, suc, ◌+◌, ◌*◌, ◌<◌, ◌≤◌, ◌&&◌, Bool, true, false, Some, None, List, length, take, get_or}
use Rattle.std.proofs.Common.{refl, sym, ◌∙◌, ap, subst, arith}
use Rattle.std.specs.Prelude.{if◌then◌else◌, slice_get, Option}
use Rattle.std.specs.List.{count_by}
use Rattle.std.proofs.lemmas.List.Sums.{count_by_more_yes, count_by_more_no}
use Rattle.std.proofs.lemmas.Option.{slice_get_within, slice_get-get_or}
use Rattle.network_judge.specs.declared.table.Kind.{Kind}
use Rattle.std.proofs.lemmas.Bool.{cases_Bool, cases_lt, and_from, and_parts}
use Rattle.wormhole.specs.Weight.{sum_below}
use Rattle.network_judge.specs.declared.table.Join.{Join}
use Rattle.network_judge.specs.declared.table.Kind.TheVariants.{Injection, Hop, Ejection}
use Rattle.network_judge.specs.Table.{Table, columns_of, column_of, kind_of, joins_of, is_sender, is_receiver, ejects}
use Rattle.network_judge.specs.Ways.{place, IsWay}
use Rattle.network_judge.specs.Spans.{ComesAt}
use Rattle.network_judge.specs.Verdicts.{AllArrive, IsFirstFault, join_at}
use Rattle.network_judge.specs.Marks.{cell, is_marked_at, Passes, IsMarked, MarksRoutes}
use Rattle.network_judge.specs.declared.table.NoRoute.{NoRoute}
use Rattle.network_judge.proofs.Ends.{column_low, one_column}
use Rattle.network_judge.proofs.Nets.{some_step, open_before}
use Rattle.network_judge.proofs.Failing.{no_way}
use Rattle.network_judge.proofs.Marking.{place_of, joined_at}
use Rattle.network_judge.proofs.Still.{on_way, sender, hop, receiver}
use Rattle.network_answer.specs.Totals.{count_below, pairs_to, IsCountOf, OneMore, NotThis, IsHopUsed, IsLongestOf, IsLongestRoute}

-- one number more
pub count_more : (p : ℕ → Bool) (n : ℕ) → count_below p (n + 1) ≡ count_below p n + (if p n then 1 else 0)
count_more p n = let one : suc n ≡ n + 1 = omega arith in ap (count_below p) (sym one)

pub count_same : (p q : ℕ → Bool) (n : ℕ) → ((x : ℕ) → p x ≡ q x) → count_below p n ≡ count_below q n
count_same p q zero same = refl
count_same p q (suc n) same =
    ap (λ m. m + (if p n then 1 else 0)) (count_same p q n same)
    ∙ ap (λ (b : Bool). count_below q n + (if b then 1 else 0)) (same n)

pub count_none : (p : ℕ → Bool) (n : ℕ) → ((x : ℕ) → p x ≡ false) → count_below p n ≡ 0
count_none p zero never = refl
count_none p (suc n) never =
    ap (λ m. m + (if p n then 1 else 0)) (count_none p n never) ∙ ap (λ (b : Bool). 0 + (if b then 1 else 0)) (never n)

pub sum_more : (f : ℕ → ℕ) (n : ℕ) → sum_below (n + 1) f ≡ sum_below n f + f n
sum_more f n = let one : suc n ≡ n + 1 = omega arith in ap (λ m. sum_below m f) (sym one)

pub one_more : (P : ℕ → Type 0) (n count : ℕ) → IsCountOf P n count → P n → IsCountOf P (n + 1) (count + 1)
one_more P n count so is =
    let one : suc n ≡ n + 1 = omega arith in
    let up : suc count ≡ count + 1 = omega arith in
    subst (λ m. IsCountOf P m (count + 1)) one (subst (λ c. IsCountOf P (suc n) c) up (OneMore n count so is))

pub not_this : (P : ℕ → Type 0) (n count : ℕ) → IsCountOf P n count → (P n → ⊥) → IsCountOf P (n + 1) count
not_this P n count so isnt =
    let one : suc n ≡ n + 1 = omega arith in
    subst (λ m. IsCountOf P m count) one (NotThis n count so isnt)

-- the kind of a channel that a receiver takes flits from
pub receiver_kind : (k : Option Kind) → is_receiver k ≡ true → k ≡ Some Ejection
receiver_kind None is = cc
receiver_kind (Some Injection) is = cc
receiver_kind (Some Hop) is = cc
receiver_kind (Some Ejection) is = refl

-- one ejection channel more, or none
pub ends_more : (kinds : List Kind) (j : ℕ) → slice_get kinds j ≡ Some Ejection
    → count_by ejects (take (j + 1) kinds) ≡ count_by ejects (take j kinds) + 1
ends_more kinds j e =
    let low : j < length kinds = slice_get_within kinds j Ejection e in
    let both : Some (get_or kinds j Hop) ≡ Some Ejection = sym (slice_get-get_or kinds j Hop low) ∙ e in
    let kind : get_or kinds j Hop ≡ Ejection = cc in
    count_by_more_yes ejects kinds j Hop low (ap ejects kind)

other_kind : (k : Kind) → is_receiver (Some k) ≡ false → ejects k ≡ false
other_kind Injection is = refl
other_kind Hop is = refl
other_kind Ejection is = cc

pub ends_no_more : (kinds : List Kind) (j : ℕ) → j < length kinds → is_receiver (slice_get kinds j) ≡ false
    → count_by ejects (take (j + 1) kinds) ≡ count_by ejects (take j kinds)
ends_no_more kinds j low is =
    let known : is_receiver (Some (get_or kinds j Hop)) ≡ false = ap is_receiver (sym (slice_get-get_or kinds j Hop low)) ∙ is in
    count_by_more_no ejects kinds j Hop low (other_kind (get_or kinds j Hop) known)

-- so many more in one column more
pub low_more : (a b c d n : ℕ) → a ≤ c * n → b ≤ n → d ≡ c + 1 → a + b ≤ d * n
low_more a b c d n low less one = rw one (omega arith)

module _ (t : Table) (used : List Bool) (r : MarksRoutes t (length t.joins) used) where
  -- the way of a joined pair is marked
  pub way_marked : (i j : ℕ) → joins_of t i j ≡ true → IsMarked t i j used
  way_marked i j joined =
      let p = place_of t i j joined in
      subst (λ z. IsMarked t i z used) p.1.to (subst (λ z. IsMarked t z (join_at t p.0).to used) p.1.from (r.each p.0 p.1.below))

  -- an injection channel that is marked in the column of an ejection channel is joined to it
  marked_joined : (i j : ℕ) → kind_of t j ≡ Some Ejection → is_sender (kind_of t i) ≡ true
      → is_marked_at used (cell t i (column_of t j)) ≡ true → joins_of t i j ≡ true
  marked_joined i j end sends marked =
      let in_column = r.only i (column_of t j) (column_low t.kinds j end) marked in
      let p = in_column.passes in
      let same : in_column.to ≡ j = one_column t.kinds in_column.to j p.way.under_way.receiver end in_column.column in
      let before = p.before in
      let from : p.from ≡ i = elim (on_way t p.from in_column.to p.steps p.way p.step (omega arith)) [
        | sender z e ↦ (ap (place t in_column.to p.from) (sym z) ∙ p.here)
        | hop e ↦ absurd (let never : is_sender (kind_of t i) ≡ false = ap (λ x. is_sender (kind_of t x)) (sym p.here) ∙ ap is_sender e in cc)
        | receiver z a e ↦ absurd (omega arith)
      ] in
      subst (λ z. joins_of t i z ≡ true) same (subst (λ z. joins_of t z in_column.to ≡ true) from p.joined)

  -- and no other
  pub marks_are_pairs : (i j : ℕ) → kind_of t j ≡ Some Ejection
      → (is_sender (kind_of t i) && is_marked_at used (cell t i (column_of t j))) ≡ joins_of t i j
  marks_are_pairs i j end = elim (cases_Bool (joins_of t i j)) [
    | inl there ↦
        let m = way_marked i j there in
        and_from (is_sender (kind_of t i)) (is_marked_at used (cell t i (column_of t j))) (ap is_sender m.way.under_way.sender)
        (m.marked 0 (some_step t i j m.steps m.way)) ∙ sym there
    | inr gone ↦ elim (cases_Bool (is_sender (kind_of t i) && is_marked_at used (cell t i (column_of t j)))) [
      | inl both ↦
          let parts = and_parts (is_sender (kind_of t i)) (is_marked_at used (cell t i (column_of t j))) both in
          absurd (let there : joins_of t i j ≡ true = marked_joined i j end parts.0 parts.1 in cc)
      | inr neither ↦ neither ∙ sym gone
    ]
  ]

  -- so many pairs go to an ejection channel
  pub column_count : (width column m j n : ℕ) → width ≡ columns_of t → column ≡ column_of t j → kind_of t j ≡ Some Ejection
      → m ≡ count_below (λ x. is_sender (kind_of t x) && is_marked_at used (x * width + column)) n → m ≡ pairs_to t.joins n j
  column_count width column m j n wide at end is =
      is
      ∙ (ap (λ w. count_below (λ x. is_sender (kind_of t x) && is_marked_at used (x * w + column)) n) wide
      ∙ (ap (λ c. count_below (λ x. is_sender (kind_of t x) && is_marked_at used (cell t x c)) n) at
      ∙ count_same (λ i. is_sender (kind_of t i) && is_marked_at used (cell t i (column_of t j))) (λ i. joins_of t i j) n
      (λ i. marks_are_pairs i j end)))

  -- no pair goes to another channel
  pub no_pairs_to : (j n : ℕ) → kind_of t j ≢ Some Ejection → pairs_to t.joins n j ≡ 0
  no_pairs_to j n other = count_none (λ i. joins_of t i j) n (λ i. elim (cases_Bool (joins_of t i j)) [
    | inl there ↦ absurd (other (way_marked i j there).way.under_way.receiver)
    | inr gone ↦ gone
  ])

  -- a hop that is marked in a column is used
  pub marked_is_used : (x column : ℕ) → kind_of t x ≡ Some Hop → column < columns_of t → is_marked_at used (cell t x column) ≡ true
      → IsHopUsed t x
  marked_is_used x column kind low marked = let p = r.only x column low marked in (kind, (p.to, p.passes))

  -- one that is used is marked
  pub used_is_marked : (x : ℕ) → IsHopUsed t x → (column : ℕ) × (column < columns_of t) × (is_marked_at used (cell t x column) ≡ true)
  used_is_marked x is =
      let j : ℕ = is.1.0 in
      let p : Passes t x j = is.1.1 in
      let m = way_marked p.from j p.joined in
      let before = p.before in
      let low : p.step < m.steps = elim (cases_lt p.step m.steps) [
        | inl less ↦ less
        | inr more ↦ absurd (open_before t p.from j p.steps p.way.under_way m.steps (omega arith) m.way.arrives)
      ] in (
        column_of t j,
        column_low t.kinds j p.way.under_way.receiver,
        subst (λ z. is_marked_at used (cell t z (column_of t j)) ≡ true) p.here (m.marked p.step low),
      )

-- how long the way of a pair is
pub way_length : (t : Table) (i j n step : ℕ) → IsWay t i j n → ComesAt t i j j step → step ≡ n
way_length t i j n step way comes =
    let low = comes.on n way in
    elim (cases_lt step n) [
      | inl less ↦ absurd (open_before t i j n way.under_way step less comes.here)
      | inr more ↦ omega arith
    ]

-- the longest of one pair more
pub longer : (t : Table) (p most channels : ℕ) → p < length t.joins → AllArrive t → IsLongestOf t p most
    → ((n : ℕ) → IsWay t (join_at t p).from (join_at t p).to n → channels ≡ n + 1) → most < channels → IsLongestOf t (p + 1) channels
longer t p most channels low arrive so is more =
    let i : ℕ = (join_at t p).from in
    let j : ℕ = (join_at t p).to in
    let joined = joined_at t p i j low refl refl in
    let way = arrive i j joined in
    record {
      all = λ q k less w. elim (cases_lt q p) [
        | inl before ↦ (let under = so.all q k before w in omega arith)
        | inr high ↦ (let same : q ≡ p = omega arith in
            let size = is k (subst (λ z. IsWay t (join_at t z).from (join_at t z).to k) same w) in omega arith)
      ];
      some = λ any. record { from = i; to = j; steps = way.0; joined = joined; way = way.1; all = is way.0 way.1 };
    }

pub no_longer : (t : Table) (p most channels : ℕ) → IsLongestOf t p most
    → ((n : ℕ) → IsWay t (join_at t p).from (join_at t p).to n → channels ≡ n + 1) → channels ≤ most → IsLongestOf t (p + 1) most
no_longer t p most channels so is low = record {
  all = λ q k less w. elim (cases_lt q p) [
    | inl before ↦ so.all q k before w
    | inr high ↦ (let same : q ≡ p = omega arith in
        let size = is k (subst (λ z. IsWay t (join_at t z).from (join_at t z).to k) same w) in omega arith)
  ];
  some = so.some;
}

pub longest_of_all : (t : Table) (n most : ℕ) → n ≡ length t.joins → IsLongestOf t n most → IsLongestRoute t most
longest_of_all t n most all so = record {
  all = λ i j k joined w.
      (let p = place_of t i j joined in
      let low = p.1.below in
      so.all p.0 k (omega arith)
      (subst (λ z. IsWay t z (join_at t p.0).to k) (sym p.1.from) (subst (λ z. IsWay t i z k) (sym p.1.to) w)));
  some = so.some;
}

-- a pair without a route has none
pub some_lost : (t : Table) (r : NoRoute) → IsFirstFault t r → AllArrive t → ⊥
some_lost t r first arrive =
    let joined = joined_at t first.place r.join.from r.join.to first.here (ap (λ (p : Join). p.from) first.join) (ap (λ (p : Join). p.to) first.join) in
    let way = arrive r.join.from r.join.to joined in
    no_way t r.join.from r.join.to r.why first.fails way.0 way.1
