-- Where all walks arrive: which channels packets go through, as a test.
use Rattle.std.proofs.Common.{◌≡◌, inl, inr, ℕ, zero, suc, ◌+◌, ◌<◌, ◌&&◌, Bool, true, false, not, eqb, ◌∷◌, length}
use Rattle.std.proofs.Common.{refl, sym, ◌∙◌, ap, subst, arith}
use Rattle.std.proofs.lemmas.Bool.{cases_order, eqb-true, eq-eqb, ne_eqb, and_parts, and_from}
use Rattle.network_judge.specs.Table.{Table, channels_of, table_next, joins_of}
use Rattle.network_judge.specs.Ways.{place, IsWay}
use Rattle.network_judge.specs.Cycles.{Depends}
use Rattle.network_judge.specs.Verdicts.{AllArrive, join_at}
use Rattle.network_judge.specs.Marks.{Passes}
use Rattle.network_judge.proofs.Places.{split, Split, places}
use Rattle.network_judge.proofs.Nets.{open_before, route_is}
use Rattle.network_judge.proofs.Marking.{joined_at, place_of}
use Rattle.network_judge.proofs.Firsts.{any, any_at, any_from, first, fails, none, is_first}

-- how many steps the walk between a pair takes
abbrev steps_of : Table → ℕ → ℕ → ℕ
steps_of t i j = first (λ k. not (eqb (place t j i k) j)) (suc (channels_of t))

steps_are : (t : Table) (i j n : ℕ) → IsWay t i j n → steps_of t i j ≡ n
steps_are t i j n w =
    let p : ℕ → Bool = λ k. not (eqb (place t j i k) j) in
    let short = w.short in
    let at : eqb (place t j i n) j ≡ true = eq-eqb (place t j i n) j w.arrives in
    let end : p n ≡ false = ap not at in
    let before : (k : ℕ) → k < n → p k ≡ true = λ k l. ap not (ne_eqb (place t j i k) j (open_before t i j n w.under_way k l)) in
    elim (is_first p (suc (channels_of t))) [
      | fails l f g ↦ elim (cases_order (steps_of t i j) n) [
        | inl e ↦ e
        | inr o ↦ elim o [
          | inl less ↦ (let bad : false ≡ true = sym f ∙ before (steps_of t i j) less in cc)
          | inr more ↦ (let bad : false ≡ true = sym end ∙ g n more in cc)
        ]
      ]
      | none e g ↦ (let bad : false ≡ true = sym end ∙ g n (omega arith) in cc)
    ]

-- whether packets to ejection channel j go through channel x and on
abbrev pub passes : Table → ℕ → ℕ → Bool
passes t x j = any (λ p. eqb (join_at t p).to j && any (λ k. eqb (place t (join_at t p).to (join_at t p).from k) x)
    (steps_of t (join_at t p).from (join_at t p).to)) (length t.joins)

pub from_passes : (t : Table) → AllArrive t → (x j : ℕ) → passes t x j ≡ true → Passes t x j
from_passes t arrive x j e =
    let a = any_from (λ p. eqb (join_at t p).to j && any (λ k. eqb (place t (join_at t p).to (join_at t p).from k) x)
    (steps_of t (join_at t p).from (join_at t p).to)) (length t.joins) e in
    let i : ℕ = (join_at t a.0).from in
    let h : ℕ = (join_at t a.0).to in
    let both = and_parts (eqb h j) (any (λ k. eqb (place t h i k) x) (steps_of t i h)) a.2 in
    let b = any_from (λ k. eqb (place t h i k) x) (steps_of t i h) both.1 in
    let joined : joins_of t i h ≡ true = joined_at t a.0 i h a.1 refl refl in
    let w = arrive i h joined in
    let n = steps_are t i h w.0 w.1 in
    let low = b.1 in
    let here : Passes t x h = record {
      from = i;
      joined = joined;
      steps = w.0;
      way = w.1;
      step = b.0;
      before = omega arith;
      here = eqb-true (place t h i b.0) x b.2;
    } in
    subst (λ z. Passes t x z) (eqb-true h j both.0) here

pub to_passes : (t : Table) → AllArrive t → (x j : ℕ) → Passes t x j → passes t x j ≡ true
to_passes t arrive x j s =
    let p = place_of t s.from j s.joined in
    let i : ℕ = (join_at t p.0).from in
    let h : ℕ = (join_at t p.0).to in
    let n : steps_of t i h ≡ s.steps = ap (λ z. steps_of t z h) p.1.from ∙ (ap (λ z. steps_of t s.from z) p.1.to ∙ steps_are t s.from j s.steps s.way) in
    let here : place t h i s.step ≡ x = ap (λ z. place t h z s.step) p.1.from ∙ (ap (λ z. place t z s.from s.step) p.1.to ∙ s.here) in
    let low = s.before in
    any_at (λ q. eqb (join_at t q).to j && any (λ k. eqb (place t (join_at t q).to (join_at t q).from k) x) (steps_of t (join_at t q).from (join_at t q).to))
    (length t.joins) p.0 p.1.below
    (and_from (eqb h j) (any (λ k. eqb (place t h i k) x) (steps_of t i h)) (eq-eqb h j p.1.to)
    (any_at (λ k. eqb (place t h i k) x) (steps_of t i h) s.step (omega arith) (eq-eqb (place t h i s.step) x here)))

-- a dependency passes
pub dependency_passes : (t : Table) → AllArrive t → (x j y : ℕ) → Depends t x j y → Passes t x j × (table_next t x j ≡ y)
dependency_passes t arrive x j y d =
    let w = arrive d.from j d.joined in
    let n : ℕ = w.0 in
    let s : Split t j d.from (suc n) x (y ∷ d.after) = split t j d.from (suc n) d.before x (y ∷ d.after) (sym (route_is t d.from j n w.1) ∙ d.neighbours) in
    let all = s.all in
    let low = further s.step n s.more all s.rest in
    (record { from = d.from; joined = d.joined; steps = n; way = w.1; step = s.step; before = low.0; here = s.here }, low.1)
  where
    further : (k n m : ℕ) → suc n ≡ suc (k + m) → y ∷ d.after ≡ places t j (table_next t x j) m → (k < n) × (table_next t x j ≡ y)
    further k n zero e f = cc
    further k n (suc m) e f = (omega arith, cc)
