-- Where no channel stays in a dead set, choices rise: channels that packets can leave are struck out, one
-- after the other, and each has a smaller number than those before it.
use Rattle.std.proofs.Common.{◌≡◌, ◌⊎◌, inl, inr, ℕ, zero, suc, ◌+◌, ◌<◌, ◌≤◌, ◌&&◌, not, Bool, true, false, cond, List, length, set, refl, sym, ◌∙◌, ap, subst, arith, replicate}
use Rattle.std.proofs.lemmas.Bool.{cases_Bool, and_parts, and_from, ltb-true, lt-ltb}
use Rattle.std.proofs.lemmas.List.{length-set, length-replicate}
use Rattle.std.proofs.lemmas.List.Sums.{count_by-le-length}
use Rattle.std.specs.Prelude.{nat_lt}
use Rattle.wormhole.specs.State.{update}
use Rattle.wormhole.proofs.Changes.{update_same, update_other}
use Rattle.network_judge.specs.Marks.{is_marked_at}
use Rattle.network_judge.proofs.Firsts.{any, any_at, any_from}
use Rattle.network_adaptive.specs.Choices.{AdaptiveNet, IsAdaptiveNet, AreReplyEnds, IsChoice, Comes, BeginsIn, ByChoice}
use Rattle.network_adaptive.specs.Spread.{down}
use Rattle.network_adaptive.proofs.Flags.{set_keeps, set_only, fewer_down}
use Rattle.network_adaptive.proofs.Begins.{down_at}
use Rattle.network_adaptive.proofs.Deciding.{comes, comes_from, comes_test, comes_end, not_true, true_not}
use Rattle.deadlock_laws.specs.DeadSets.{WaitsInside, IsDeadSet, HasRisingChoices}

none_any : (p : ℕ → Bool) (n : ℕ) → any p n ≡ false → (k : ℕ) → k < n → p k ≡ false
none_any p n e k low = elim (cases_Bool (p k)) [
  | inl up ↦ (let some = any_at p n k low up in absurd (cc))
  | inr down ↦ down
]

module _ (n : AdaptiveNet) (answers : ℕ → ℕ → Bool) (net : IsAdaptiveNet n) (ends : AreReplyEnds n answers) where
  abbrev top : ℕ
  top = n.frame.channels

  -- whether a choice behind channel x is struck out
  abbrev goes : List Bool → ℕ → ℕ → Bool
  goes struck j x = any (λ y. n.chooses x j y && is_marked_at struck y) top

  -- whether a channel on which packets are answered isn't
  abbrev waits : List Bool → ℕ → Bool
  waits struck x = any (λ y. answers x y && not (is_marked_at struck y)) top

  -- whether packets to j wait in channel x for channels alone that aren't struck out
  abbrev stuck : List Bool → ℕ → ℕ → Bool
  stuck struck j x = comes n j x && cond (n.frame.ejects x) (waits struck x) (not (goes struck j x))

  abbrev is_stuck : List Bool → ℕ → Bool
  is_stuck struck x = any (λ j. stuck struck j x) top

  abbrev can_strike : List Bool → ℕ → Bool
  can_strike struck x = not (is_marked_at struck x) && not (is_stuck struck x)

  -- the channels struck out so far have numbers, and each way out of them has a greater one
  record Struck (struck : List Bool) (number : ℕ → ℕ) : Type 0 where
    size : length struck ≡ top
    bounded : (x : ℕ) → is_marked_at struck x ≡ true → number x < top
    high : (x : ℕ) → is_marked_at struck x ≡ true → down struck ≤ number x
    few : down struck ≤ top
    rises : (j x : ℕ) → is_marked_at struck x ≡ true → Comes n j x → n.frame.ejects x ≡ false
        → (y : ℕ) × IsChoice n j x y × (is_marked_at struck y ≡ true) × (number x < number y)
    answered : (x y : ℕ) → is_marked_at struck x ≡ true → Comes n x x → n.frame.ejects x ≡ true → answers x y ≡ true
        → (is_marked_at struck y ≡ true) × (number x < number y)

  abbrev Found : Type 0
  Found = ((number : ℕ → ℕ) × HasRisingChoices n answers number) ⊎ ((set : ℕ → Bool) × ((x : ℕ) × (set x ≡ true)) × IsDeadSet n answers set)

  receiver : (j x : ℕ) → Comes n j x → n.frame.ejects j ≡ true
  receiver j x come = let f = comes_joins j x come in net.receivers f.0 j f.1
    where
      comes_joins : (j x : ℕ) → Comes n j x → (i : ℕ) × (n.frame.joins i j ≡ true)
      comes_joins j x (BeginsIn i joined) = (x, joined)
      comes_joins j x (ByChoice y z c s) = comes_joins j y c

  -- each channel is struck out
  all_struck : (struck : List Bool) (number : ℕ → ℕ) → Struck struck number → any (λ x. not (is_marked_at struck x)) top ≡ false
      → (number : ℕ → ℕ) × HasRisingChoices n answers number
  all_struck struck number h none =
      let up : (x : ℕ) → x < top → is_marked_at struck x ≡ true = λ x low. elim (cases_Bool (is_marked_at struck x)) [
        | inl up ↦ up
        | inr down ↦ (let some = any_at (λ x. not (is_marked_at struck x)) top x low (true_not (is_marked_at struck x) down) in absurd (cc))
      ] in (
        number,
        record {
          rises = λ j x come input. (let r = h.rises j x (up x (net.within j x come)) come input in (r.0, r.1, r.3));
          answered = λ x y come is. (let r = h.answered x y (up x (net.within x x come)) come (receiver x x come) is in r.1);
          bounded = λ x low. h.bounded x (up x low);
        },
      )

  -- whether a channel isn't struck out
  abbrev unstruck : List Bool → ℕ → Bool
  unstruck struck x = nat_lt x top && not (is_marked_at struck x)

  -- no channel can be struck out any more
  none_goes : (struck : List Bool) → any (λ x. not (is_marked_at struck x)) top ≡ true
      → any (can_strike struck) top ≡ false
      → (set : ℕ → Bool) × ((x : ℕ) × (set x ≡ true)) × IsDeadSet n answers set
  none_goes struck some none =
      let w = any_from (λ x. not (is_marked_at struck x)) top some in (
        unstruck struck,
        (w.0, and_from (nat_lt w.0 top) (not (is_marked_at struck w.0)) (lt-ltb w.0 top w.1) w.2),
        λ x is.
            let a = and_parts (nat_lt x top) (not (is_marked_at struck x)) is in
            let low : x < top = ltb-true x top a.0 in
            dead x low a.1 (is_stuck struck x) refl,
      )
    where
      at_end : (x : ℕ) → waits struck x ≡ true → (y : ℕ) × (answers x y ≡ true) × (unstruck struck y ≡ true)
      at_end x e =
          let w = any_from (λ y. answers x y && not (is_marked_at struck y)) top e in
          let b = and_parts (answers x w.0) (not (is_marked_at struck w.0)) w.2 in
          (w.0, b.0, and_from (nat_lt w.0 top) (not (is_marked_at struck w.0)) (lt-ltb w.0 top w.1) b.1)

      choices : (j x : ℕ) → Comes n j x → goes struck j x ≡ false → (y : ℕ) → IsChoice n j x y → unstruck struck y ≡ true
      choices j x come e y c =
          let low : y < top = net.within j y (ByChoice x y come c) in
          let off : (n.chooses x j y && is_marked_at struck y) ≡ false = none_any (λ y. n.chooses x j y && is_marked_at struck y) top e y low in
          elim (cases_Bool (is_marked_at struck y)) [
            | inl up ↦ (let on = and_from (n.chooses x j y) (is_marked_at struck y) c.chosen up in absurd (cc))
            | inr down ↦ and_from (nat_lt y top) (not (is_marked_at struck y)) (lt-ltb y top low) (true_not (is_marked_at struck y) down)
          ]

      by_end : (j x : ℕ) → Comes n j x → (b : Bool) → n.frame.ejects x ≡ b → cond b (waits struck x) (not (goes struck j x)) ≡ true → WaitsInside n answers (unstruck struck) j x
      by_end j x come true last e = record {
        comes = come;
        choices = λ y c. (let i = c.input in absurd (cc));
        at_end = λ same. at_end x e;
      }
      by_end j x come false input e = record {
        comes = come;
        choices = choices j x come (not_true (goes struck j x) e);
        at_end = λ last. absurd (cc);
      }

      dead : (x : ℕ) → x < top → not (is_marked_at struck x) ≡ true → (b : Bool) → is_stuck struck x ≡ b → (j : ℕ) × WaitsInside n answers (unstruck struck) j x
      dead x low down true e =
          let w = any_from (λ j. stuck struck j x) top e in
          let b = and_parts (comes n w.0 x) (cond (n.frame.ejects x) (waits struck x) (not (goes struck w.0 x))) w.2 in
          (w.0, by_end w.0 x (comes_from n w.0 x b.0) (n.frame.ejects x) refl b.1)
      dead x low down false e =
          let off = none_any (can_strike struck) top none x low in
          let on = and_from (not (is_marked_at struck x)) (not (is_stuck struck x)) down (true_not (is_stuck struck x) e) in
          absurd (cc)

  -- one channel more is struck out
  module _ (struck : List Bool) (number : ℕ → ℕ) (h : Struck struck number) (x : ℕ) (low : x < top) (new : is_marked_at struck x ≡ false) (free : is_stuck struck x ≡ false) where
    abbrev more : List Bool
    more = set struck x true

    abbrev numbers : ℕ → ℕ
    numbers = update number x (down more)

    inside : x < length struck
    inside = let s = h.size in omega arith

    fewer : down more + 1 ≡ down struck
    fewer = fewer_down struck x inside new

    here : numbers x ≡ down more
    here = update_same number x (down more)

    kept : (z : ℕ) → is_marked_at struck z ≡ true → numbers z ≡ number z
    kept z up = update_other number x (down more) z (λ same. let bad = ap (is_marked_at struck) same in absurd (cc))

    -- a channel that was struck out before has a greater number
    greater : (y : ℕ) → is_marked_at struck y ≡ true → (is_marked_at more y ≡ true) × (numbers x < numbers y)
    greater y up = let high = h.high y up in let was = kept y up in let is = here in let one = fewer in
        (set_keeps struck x y inside up, omega arith)

    open_at : (j : ℕ) → Comes n j x → cond (n.frame.ejects x) (waits struck x) (not (goes struck j x)) ≡ false
    open_at j come =
        let off = none_any (λ j. stuck struck j x) top free j (comes_end n net j x come) in
        let test = comes_test n net j x come in
        elim (cases_Bool (cond (n.frame.ejects x) (waits struck x) (not (goes struck j x)))) [
          | inl up ↦ (let on = and_from (comes n j x) (cond (n.frame.ejects x) (waits struck x) (not (goes struck j x))) test up in absurd (cc))
          | inr down ↦ down
        ]

    way_out : (j : ℕ) → Comes n j x → n.frame.ejects x ≡ false → (y : ℕ) × IsChoice n j x y × (is_marked_at struck y ≡ true)
    way_out j come input =
        let off : not (goes struck j x) ≡ false = sym (ap (λ b. cond b (waits struck x) (not (goes struck j x))) input) ∙ open_at j come in
        elim (cases_Bool (goes struck j x)) [
          | inl on ↦ (let w = any_from (λ y. n.chooses x j y && is_marked_at struck y) top on in
              let b = and_parts (n.chooses x j w.0) (is_marked_at struck w.0) w.2 in
              (w.0, record { input = input; chosen = b.0 }, b.1))
          | inr isnt ↦ (let bad = true_not (goes struck j x) isnt in absurd (cc))
        ]

    taken : (y : ℕ) → Comes n x x → n.frame.ejects x ≡ true → answers x y ≡ true → is_marked_at struck y ≡ true
    taken y come last is =
        let off : waits struck x ≡ false = sym (ap (λ b. cond b (waits struck x) (not (goes struck x x))) last) ∙ open_at x come in
        let each = none_any (λ y. answers x y && not (is_marked_at struck y)) top off y (ends.to x y is) in
        elim (cases_Bool (is_marked_at struck y)) [
          | inl up ↦ up
          | inr isnt ↦ (let on = and_from (answers x y) (not (is_marked_at struck y)) is (true_not (is_marked_at struck y) isnt) in absurd (cc))
        ]

    struck_more : Struck more numbers
    struck_more = record {
      size = length-set struck x true ∙ h.size;
      bounded = λ z up. elim (set_only struck x z up) [
        | inl same ↦ (let f = h.few in let one = fewer in let is = here in let e = ap numbers same in omega arith)
        | inr was ↦ (let b = h.bounded z was in let e = kept z was in omega arith)
      ];
      high = λ z up. elim (set_only struck x z up) [
        | inl same ↦ (let is = here in let e = ap numbers same in omega arith)
        | inr was ↦ (let b = h.high z was in let e = kept z was in let one = fewer in omega arith)
      ];
      few = (let f = h.few in let one = fewer in omega arith);
      rises = λ j z up come input. elim (set_only struck x z up) [
        | inl same ↦ (let at : Comes n j x = subst (Comes n j) same come in
            let w = way_out j at (sym (ap n.frame.ejects same) ∙ input) in
            let g = greater w.0 w.2 in
            subst (λ v. (y : ℕ) × IsChoice n j v y × (is_marked_at more y ≡ true) × (numbers v < numbers y)) (sym same) (w.0, w.1, g.0, g.1))
        | inr was ↦ (let r = h.rises j z was come input in
            let e = kept z was in let f = kept r.0 r.2 in let l = r.3 in
            (r.0, r.1, set_keeps struck x r.0 inside r.2, omega arith))
      ];
      answered = λ z y up come last is. elim (set_only struck x z up) [
        | inl same ↦ subst (λ v. (is_marked_at more y ≡ true) × (numbers v < numbers y)) (sym same)
            (greater y (taken y (subst (λ v. Comes n v v) same come) (sym (ap n.frame.ejects same) ∙ last) (sym (ap (λ v. answers v y) same) ∙ is)))
        | inr was ↦ (let r = h.answered z y was come last is in
            let e = kept z was in let f = kept y r.0 in let l = r.1 in
            (set_keeps struck x y inside r.0, omega arith))
      ];
    }

  abbrev Next : List Bool → Type 0
  Next struck = (x : ℕ) × (x < top) × (can_strike struck x ≡ true)

  -- what is found, or a channel that can be struck out
  seek : (struck : List Bool) (number : ℕ → ℕ) → Struck struck number → Found ⊎ Next struck
  seek struck number h = elim (cases_Bool (any (λ x. not (is_marked_at struck x)) top)) [
    | inl some ↦ elim (cases_Bool (any (can_strike struck) top)) [
      | inl next ↦ inr (any_from (can_strike struck) top next)
      | inr none ↦ inl (inr (none_goes struck some none))
    ]
    | inr all ↦ inl (inl (all_struck struck number h all))
  ]

  peel : (m : ℕ) (struck : List Bool) (number : ℕ → ℕ) → Struck struck number → down struck ≤ m → Found
  peel zero struck number h few = elim (seek struck number h) [
    | inl found ↦ found
    | inr next ↦ (let b = and_parts (not (is_marked_at struck next.0)) (not (is_stuck struck next.0)) next.2 in
        let one = fewer_down struck next.0 (let s = h.size in let l = next.1 in omega arith) (not_true (is_marked_at struck next.0) b.0) in
        absurd (omega arith))
  ]
  peel (suc m) struck number h few = elim (seek struck number h) [
    | inl found ↦ found
    | inr next ↦ (let x : ℕ = next.0 in
        let b = and_parts (not (is_marked_at struck x)) (not (is_stuck struck x)) next.2 in
        let new = not_true (is_marked_at struck x) b.0 in
        let one = fewer_down struck x (let s = h.size in let l = next.1 in omega arith) new in
        peel m (set struck x true) (update number x (down (set struck x true)))
        (struck_more struck number h x next.1 new (not_true (is_stuck struck x) b.1)) (omega arith))
  ]

  abbrev at_first : List Bool
  at_first = replicate top false

  first_few : down at_first ≤ top
  first_few = omega (arith, count_by-le-length not at_first, length-replicate top false)

  none_up : (x : ℕ) → is_marked_at at_first x ≡ true → ⊥
  none_up x up = let down_here = down_at top x in let bad : true ≡ false = sym up ∙ down_here in cc

  pub rise_or_dead : Found
  rise_or_dead = peel top at_first (λ x. 0) (record {
    size = length-replicate top false;
    bounded = λ x up. absurd (none_up x up);
    high = λ x up. absurd (none_up x up);
    few = first_few;
    rises = λ j x up come input. absurd (none_up x up);
    answered = λ x y up come last is. absurd (none_up x up);
  }) first_few
