-- Marks of many routes.
use Rattle.std.proofs.Common.{◌≡◌, inl, inr, ℕ, zero, suc, ◌+◌, ◌/◌, ◌%◌, ◌<◌, ◌==◌, ◌&&◌, eqb, Bool, true, Some, List, ◌∷◌, length, refl, sym, ◌∙◌, ap}
use Rattle.std.proofs.Common.{subst, arith}
use Rattle.std.proofs.lemmas.Bool.{cases_lt, eq-eqb, eqb-true, and_from, and_parts}
use Rattle.std.proofs.lemmas.Nat.{div-mul-add, mod-mul-add}
use Rattle.std.proofs.lemmas.List.{get_or_default}
use Rattle.std.proofs.lemmas.List.Folds.{list_any_at, Any-from_list_any}
use Rattle.network_judge.specs.declared.table.Join.{Join}
use Rattle.network_judge.specs.declared.table.Kind.TheVariants.{Ejection}
use Rattle.network_judge.specs.Table.{Table, channels_of, columns_of, column_of, kind_of, table_next, joins_of}
use Rattle.network_judge.specs.Ways.{place, IsWay}
use Rattle.network_judge.specs.Cycles.{Depends}
use Rattle.network_judge.specs.Verdicts.{AllArrive, join_at}
use Rattle.network_judge.specs.Marks.{cell, is_marked_at, IsTraced, Passes, IsMarked, MarksRoutes}
use Rattle.network_judge.proofs.Ends.{column_low}
use Rattle.network_judge.proofs.Places.{places, place_next, Split, split}
use Rattle.network_judge.proofs.Nets.{route_is, within_way, way_depends}

-- a pair on the list is joined
pub joined_at : (t : Table) (p i j : ℕ) → p < length t.joins → (join_at t p).from ≡ i → (join_at t p).to ≡ j → joins_of t i j ≡ true
joined_at t p i j low e f =
    list_any_at (λ (pair : Join). pair.from == i && pair.to == j) t.joins p (record { from = 0; to = 0 }) low
    (and_from (eqb (join_at t p).from i) (eqb (join_at t p).to j) (eq-eqb (join_at t p).from i e) (eq-eqb (join_at t p).to j f))

-- where on the list a joined pair is
pub record IsAt (t : Table) (i j p : ℕ) : Type 0 where
  pub below : p < length t.joins
  pub from : (join_at t p).from ≡ i
  pub to : (join_at t p).to ≡ j

pub place_of : (t : Table) (i j : ℕ) → joins_of t i j ≡ true → (p : ℕ) × IsAt t i j p
place_of t i j joined =
    let a = Any-from_list_any (λ (pair : Join). pair.from == i && pair.to == j) t.joins joined in
    let low = a.2 in
    let same : join_at t a.0 ≡ a.1 = get_or_default t.joins a.0 (record { from = 0; to = 0 }) a.1 low ∙ a.3 in
    let both = and_parts (eqb a.1.from i) (eqb a.1.to j) a.4 in (
      a.0,
      record {
        below = low;
        from = ap (λ (pair : Join). pair.from) same ∙ eqb-true a.1.from i both.0;
        to = ap (λ (pair : Join). pair.to) same ∙ eqb-true a.1.to j both.1;
      },
    )

-- one place for each channel and column
one_cell : (t : Table) (x y c d : ℕ) → c < columns_of t → d < columns_of t → cell t x c ≡ cell t y d → (x ≡ y) × (c ≡ d)
one_cell t x y c d low less e = (
  sym (div-mul-add x (columns_of t) c low) ∙ (ap (λ m. m / columns_of t) e ∙ div-mul-add y (columns_of t) d less),
  sym (mod-mul-add x (columns_of t) c low) ∙ (ap (λ m. m % columns_of t) e ∙ mod-mul-add y (columns_of t) d less),
)

-- the marks of one pair more
pub marked_more : (t : Table) (p n : ℕ) (old new : List Bool) → MarksRoutes t p old → p < length t.joins
    → IsWay t (join_at t p).from (join_at t p).to n → IsTraced t (join_at t p).from (join_at t p).to n old new → MarksRoutes t (p + 1) new
marked_more t p n old new r low w traced =
    let i : ℕ = (join_at t p).from in
    let j : ℕ = (join_at t p).to in
    let last : column_of t j < columns_of t = column_low t.kinds j w.under_way.receiver in
    record {
      size = traced.size ∙ r.size;
      each = λ q l. elim (cases_lt q p) [
        | inl before ↦ (let m = r.each q before in record { steps = m.steps; way = m.way; marked = λ k l. traced.kept _ (m.marked k l) })
        | inr high ↦ (let same : p ≡ q = omega arith in
            let here : IsMarked t i j new = record { steps = n; way = w; marked = traced.marked } in
            subst (λ z. IsMarked t (join_at t z).from (join_at t z).to new) same here)
      ];
      only = λ x column less is_marked. elim (traced.only (cell t x column) is_marked) [
        | inl was ↦ r.only x column less was
        | inr s ↦ (let one = one_cell t x (place t j i s.0) column (column_of t j) less last s.2 in
            let here : Passes t x j = record {
              from = i;
              joined = joined_at t p i j low refl refl;
              steps = n;
              way = w;
              step = s.0;
              before = s.1;
              here = sym one.0;
            } in
            record { to = j; column = sym one.1; passes = here })
      ];
    }

-- between all joined ends there is a route
pub all_arrive : (t : Table) (used : List Bool) → MarksRoutes t (length t.joins) used → AllArrive t
all_arrive t used r i j joined =
    let p = place_of t i j joined in
    let m = r.each p.0 p.1.below in
    (m.steps, subst (λ z. IsWay t i z m.steps) p.1.to (subst (λ z. IsWay t z (join_at t p.0).to m.steps) p.1.from m.way))

-- packets go on to ejection channels
pub passes_end : (t : Table) (x j : ℕ) → Passes t x j → kind_of t j ≡ Some Ejection
passes_end t x j h = h.way.under_way.receiver

-- a marked channel has a next one, and packets go on to it
pub next_within : (t : Table) (x j : ℕ) → Passes t x j → table_next t x j < channels_of t
next_within t x j h =
    let next : place t j h.from (suc h.step) ≡ table_next t x j = place_next t j h.from h.step ∙ ap (λ z. table_next t z j) h.here in
    let low = h.before in
    subst (λ z. z < channels_of t) next (within_way t h.from j h.steps (suc h.step) h.way (omega arith))

pub goes_on : (t : Table) (x j y : ℕ) → Passes t x j → table_next t x j ≡ y → Depends t x j y
goes_on t x j y h e =
    let next : place t j h.from (suc h.step) ≡ y = place_next t j h.from h.step ∙ (ap (λ z. table_next t z j) h.here ∙ e) in
    let d = way_depends t h.from j h.steps h.step h.joined h.way h.before in
    subst (λ z. Depends t x j z) next (subst (λ z. Depends t z j (place t j h.from (suc h.step))) h.here d)

-- a dependency is marked, and goes to the next channel
pub record IsUsed (t : Table) (used : List Bool) (x j y : ℕ) : Type 0 where
  pub channel : x < channels_of t
  pub inside : y < channels_of t
  pub end : column_of t j < columns_of t
  pub marked : is_marked_at used (cell t x (column_of t j)) ≡ true
  pub next : table_next t x j ≡ y

pub is_used : (t : Table) (used : List Bool) → MarksRoutes t (length t.joins) used → (x j y : ℕ) → Depends t x j y → IsUsed t used x j y
is_used t used r x j y d =
    let p = place_of t d.from j d.joined in
    let m = r.each p.0 p.1.below in
    let marked : IsMarked t d.from j used =
    subst (λ z. IsMarked t d.from z used) p.1.to (subst (λ z. IsMarked t z (join_at t p.0).to used) p.1.from m) in
    let n : ℕ = marked.steps in
    let s : Split t j d.from (suc n) x (y ∷ d.after) =
    split t j d.from (suc n) d.before x (y ∷ d.after) (sym (route_is t d.from j n marked.way) ∙ d.neighbours) in
    let all = s.all in
    let more : (m : ℕ) → s.more ≡ m → (s.step < n) × (table_next t x j ≡ y) =
    λ m e. further t x j y d.after s.step n m (omega (arith, e)) (s.rest ∙ ap (places t j (table_next t x j)) e) in
    let low = more s.more refl in
    let passes : Passes t x j = record {
      from = d.from;
      joined = d.joined;
      steps = n;
      way = marked.way;
      step = s.step;
      before = low.0;
      here = s.here;
    } in
    record {
      channel = subst (λ z. z < channels_of t) s.here (within_way t d.from j n s.step marked.way (let l = low.0 in omega arith));
      inside = subst (λ z. z < channels_of t) low.1 (next_within t x j passes);
      end = column_low t.kinds j marked.way.under_way.receiver;
      marked = subst (λ z. is_marked_at used (cell t z (column_of t j)) ≡ true) s.here (marked.marked s.step low.0);
      next = low.1;
    }
  where
    further : (t : Table) (x j y : ℕ) (after : List ℕ) (k n m : ℕ) → suc n ≡ suc (k + m) → y ∷ after ≡ places t j (table_next t x j) m
        → (k < n) × (table_next t x j ≡ y)
    further t x j y after k n zero e f = cc
    further t x j y after k n (suc m) e f = (omega arith, cc)
