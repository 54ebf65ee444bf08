-- The jam of an untangled circle: each arc filled from its end.
use Rattle.std.proofs.Common.{◌≡◌, ◌≢◌, inl, inr, ⊎_elim, ℕ, zero, suc, ◌+◌, ◌-◌, ◌<◌, ◌≤◌, true, false, cond, List, [], ◌∷◌, refl, sym, ◌∙◌, ap}
use Rattle.std.proofs.Common.{arith, All, eq-eqb}
use Rattle.std.proofs.lemmas.Bool.{cases_lt, cases_eq, ne_eqb}
use Rattle.std.proofs.lemmas.List.Elements.{All-nil, All-cons}
use Rattle.network_judge.specs.declared.table.Reply.{Reply}
use Rattle.network_judge.specs.Table.{Table}
use Rattle.network_judge.proofs.Places.{place_next}
use Rattle.network_judge.specs.declared.fill.Fill.{Fill}
use Rattle.network_judge.specs.Jams.{fill_channel, is_filled, AreFilledInTurn, WaitsForFilled, IsJam}
use Rattle.network_judge.specs.Arcs.{Arc, at, begin, On, AnyOn, AreArcsApart, ArcLeadsTo, first_of, Chain, Circle, IsClearArc, AreClear}
use Rattle.network_judge.proofs.Arcs.{on_begin, apart_on}
use Rattle.network_judge.proofs.Circles.{Untangled}

module _ (t : Table) (replies : List Reply) where
  abbrev pub fill : Arc t → ℕ → Fill
  fill a k = record { from = a.from; to = a.to; step = k }

  -- an arc's channels from step k on, n of them, and then others
  abbrev pub fills_from : Arc t → ℕ → ℕ → List Fill → List Fill
  fills_from a k zero fs = fs
  fills_from a k (suc n) fs = fill a k ∷ fills_from a (suc k) n fs

  abbrev pub fills : List (Arc t) → List Fill
  fills [] = []
  fills (a ∷ ps) = fills_from a a.start (suc (a.end - a.start)) (fills ps)

  filled_first : (f : Fill) (fs : List Fill) (x : ℕ) → fill_channel t f ≡ x → is_filled t (f ∷ fs) x ≡ true
  filled_first f fs x same = ap (λ b. cond b true (is_filled t fs x)) (eq-eqb (fill_channel t f) x same)

  filled_other : (f : Fill) (fs : List Fill) (x : ℕ) → fill_channel t f ≢ x → is_filled t (f ∷ fs) x ≡ is_filled t fs x
  filled_other f fs x apart = ap (λ b. cond b true (is_filled t fs x)) (ne_eqb (fill_channel t f) x apart)

  filled_behind : (f : Fill) (fs : List Fill) (x : ℕ) → is_filled t fs x ≡ true → is_filled t (f ∷ fs) x ≡ true
  filled_behind f fs x is = ⊎_elim (λ (e : fill_channel t f ≡ x). filled_first f fs x e) (λ (d : fill_channel t f ≢ x). filled_other f fs x d ∙ is)
      (cases_eq (fill_channel t f) x)

  from_behind : (a : Arc t) (k n : ℕ) (fs : List Fill) (x : ℕ) → is_filled t fs x ≡ true → is_filled t (fills_from a k n fs) x ≡ true
  from_behind a k zero fs x is = is
  from_behind a k (suc n) fs x is = filled_behind (fill a k) (fills_from a (suc k) n fs) x (from_behind a (suc k) n fs x is)

  from_here : (a : Arc t) (k n : ℕ) (fs : List Fill) (x i : ℕ) → k ≤ i → i < k + n → at t a i ≡ x → is_filled t (fills_from a k n fs) x ≡ true
  from_here a k zero fs x i low high here = absurd (omega arith)
  from_here a k (suc n) fs x i low high here = elim (cases_eq k i) [
    | inl e ↦ filled_first (fill a k) (fills_from a (suc k) n fs) x (ap (at t a) e ∙ here)
    | inr d ↦ filled_behind (fill a k) (fills_from a (suc k) n fs) x (from_here a (suc k) n fs x i (omega arith) (omega arith) here)
  ]

  from_none : (a : Arc t) (k n : ℕ) (fs : List Fill) (x : ℕ) → ((i : ℕ) → k ≤ i → i < k + n → at t a i ≢ x) → is_filled t fs x ≡ false
      → is_filled t (fills_from a k n fs) x ≡ false
  from_none a k zero fs x apart isnt = isnt
  from_none a k (suc n) fs x apart isnt =
      filled_other (fill a k) (fills_from a (suc k) n fs) x (apart k (omega arith) (omega arith))
      ∙ from_none a (suc k) n fs x (λ i low high. apart i (omega arith) (omega arith)) isnt

  any_filled : (ps : List (Arc t)) (x : ℕ) → AnyOn t ps x → is_filled t (fills ps) x ≡ true
  any_filled [] x h = absurd h
  any_filled (a ∷ ps) x (inl o) =
      (let low = o.low in let high = o.high in from_here a a.start (suc (a.end - a.start)) (fills ps) x o.step low (omega arith) o.here)
  any_filled (a ∷ ps) x (inr h) = from_behind a a.start (suc (a.end - a.start)) (fills ps) x (any_filled ps x h)

  none_filled : (ps : List (Arc t)) (x : ℕ) → (AnyOn t ps x → ⊥) → is_filled t (fills ps) x ≡ false
  none_filled [] x h = refl
  none_filled (a ∷ ps) x h =
      let order = a.order in
      from_none a a.start (suc (a.end - a.start)) (fills ps) x
      (λ i low high here. h (inl (record { step = i; low = low; high = omega arith; here = here }))) (none_filled ps x (λ r. h (inr r)))

  -- each comes in once those behind it are filled
  arc_in_turn : (all : List (Arc t)) (a : Arc t) (ps : List (Arc t)) → IsClearArc t all a → ((x : ℕ) → AnyOn t (a ∷ ps) x → AnyOn t all x)
      → ((x : ℕ) → On t a x → AnyOn t ps x → ⊥) → AreFilledInTurn t (fills ps)
      → (n k : ℕ) → k + n ≡ suc a.end → a.start ≤ k → AreFilledInTurn t (fills_from a k n (fills ps))
  arc_in_turn all a ps clear sub apart rest zero k size low = rest
  arc_in_turn all a ps clear sub apart rest (suc n) k size low = (
    record {
      joined = a.joined;
      length = a.len;
      way = a.way;
      on = (let within = a.within in omega arith);
      clear = λ j under. from_none a (suc k) n (fills ps) (at t a j)
          (λ i more less same. (let within = a.within in apart_on t a j i (omega arith) (omega arith) (sym same)))
          (none_filled ps (at t a j) (λ any. elim (cases_lt j a.start) [
            | inl early ↦ clear j early (sub (at t a j) (inr any))
            | inr late ↦ apart (at t a j) (record { step = j; low = late; high = omega arith; here = refl }) any
          ]));
    },
    arc_in_turn all a ps clear sub apart rest n (suc k) (omega arith) (omega arith),
  )

  in_turn : (all ps : List (Arc t)) → AreClear t all ps → AreArcsApart t ps → ((x : ℕ) → AnyOn t ps x → AnyOn t all x) → AreFilledInTurn t (fills ps)
  in_turn all [] clear apart sub = tt
  in_turn all (a ∷ ps) clear apart sub =
      let order = a.order in
      arc_in_turn all a ps clear.0 sub apart.0 (in_turn all ps clear.1 apart.1 (λ x h. sub x (inr h))) (suc (a.end - a.start)) a.start (omega arith) (omega arith)

  -- where the packets of an arc's channel wait
  waits_at : (fs : List Fill) (a : Arc t) (y : ℕ) → ArcLeadsTo t replies a y → is_filled t fs y ≡ true
      → ((x : ℕ) → On t a x → is_filled t fs x ≡ true) → (k : ℕ) → a.start ≤ k → k ≤ a.end → WaitsForFilled t replies fs (fill a k)
  waits_at fs a y leads target own k low high = record {
    under_way = λ apart. elim (cases_lt k a.end) [
      | inl less ↦ ap (is_filled t fs) (sym (place_next t a.to a.from k)) ∙ own (at t a (suc k)) (record { step = suc k; low = omega arith; high = less; here = refl })
      | inr last ↦ (let same : k ≡ a.end = omega arith in elim leads [
        | inl on ↦ ap (is_filled t fs) (sym (place_next t a.to a.from k) ∙ (ap (λ z. at t a (suc z)) same ∙ on.1)) ∙ target
        | inr over ↦ absurd (apart (ap (at t a) (same ∙ over.0) ∙ a.way.arrives))
      ])
    ];
    at_end = λ here. (let within = a.within in elim (cases_lt k a.len) [
      | inl less ↦ absurd (apart_on t a k a.len less (omega arith) (here ∙ sym a.way.arrives))
      | inr last ↦ elim leads [
        | inl on ↦ (let before = on.0 in absurd (omega arith))
        | inr over ↦ (y, over.1, target)
      ]
    ]);
  }

  arc_waits : (fs : List Fill) (a : Arc t) (y : ℕ) → ArcLeadsTo t replies a y → is_filled t fs y ≡ true → ((x : ℕ) → On t a x → is_filled t fs x ≡ true)
      → (gs : List Fill) → All (WaitsForFilled t replies fs) gs
      → (n k : ℕ) → k + n ≡ suc a.end → a.start ≤ k → All (WaitsForFilled t replies fs) (fills_from a k n gs)
  arc_waits fs a y leads target own gs rest zero k size low = rest
  arc_waits fs a y leads target own gs rest (suc n) k size low =
      All-cons (WaitsForFilled t replies fs) (fill a k) (fills_from a (suc k) n gs) (waits_at fs a y leads target own k low (omega arith))
      (arc_waits fs a y leads target own gs rest n (suc k) (omega arith) (omega arith))

  wait : (fs : List Fill) (ps : List (Arc t)) (e : ℕ) → Chain t replies ps e → is_filled t fs e ≡ true → ((x : ℕ) → AnyOn t ps x → is_filled t fs x ≡ true)
      → All (WaitsForFilled t replies fs) (fills ps)
  wait fs [] e chain target own = All-nil (WaitsForFilled t replies fs)
  wait fs (a ∷ ps) e chain target own =
      let order = a.order in
      arc_waits fs a (first_of t replies ps e) chain.0 (first_filled ps (λ x h. own x (inr h))) (λ x o. own x (inl o)) (fills ps)
      (wait fs ps e chain.1 target (λ x h. own x (inr h))) (suc (a.end - a.start)) a.start (omega arith) (omega arith)
    where
      first_filled : (ps : List (Arc t)) → ((x : ℕ) → AnyOn t ps x → is_filled t fs x ≡ true) → is_filled t fs (first_of t replies ps e) ≡ true
      first_filled [] h = target
      first_filled (b ∷ rest) h = h (begin t b) (inl (on_begin t b))

  pub is_jam : (head : Arc t) (rest : List (Arc t)) → Circle t replies (head ∷ rest) → AreClear t (head ∷ rest) (head ∷ rest)
      → IsJam t replies (fills (head ∷ rest))
  is_jam head rest circle clear =
      let own : (x : ℕ) → AnyOn t (head ∷ rest) x → is_filled t (fills (head ∷ rest)) x ≡ true = λ x h. any_filled (head ∷ rest) x h in
      record {
        some = omega arith;
        in_turn = in_turn (head ∷ rest) (head ∷ rest) clear circle.apart (λ x h. h);
        waits = wait (fills (head ∷ rest)) (head ∷ rest) (begin t head) circle.chain (own (begin t head) (inl (on_begin t head))) own;
      }

  pub jam_of : Untangled t replies → (fs : List Fill) × IsJam t replies fs
  jam_of u = (fills (u.head ∷ u.rest), is_jam u.head u.rest u.circle u.clear)
