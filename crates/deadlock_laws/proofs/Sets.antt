-- Dead sets: the channels of a filling are one, and where choices rise there is none.
use Rattle.std.proofs.Common.{◌≡◌, inl, inr, ℕ, ◌<◌, ◌≤◌, Bool, true, false, List, [], ◌∷◌, All, cond, refl, sym, ◌∙◌, ap, subst, arith, eq-eqb}
use Rattle.std.proofs.lemmas.Bool.{cases_eq, cases_Bool, ne_eqb}
use Rattle.std.proofs.lemmas.List.Elements.{All-nil, All-cons, All-head, All-tail}
use Rattle.wormhole.proofs.Inductions.{by_falling}
use Rattle.network_adaptive.specs.Choices.{AdaptiveNet, IsAdaptiveNet, AreReplyEnds, Comes, ByChoice}
use Rattle.deadlock_laws.specs.Fillings.{Filling, enters_behind, is_occupied, is_full, FillInTurn, WaitsForAll, IsDeadFilling}
use Rattle.deadlock_laws.specs.DeadSets.{WaitsInside, IsDeadSet, HasRisingChoices}
use Rattle.deadlock_laws.proofs.ChoiceMoves.{comes}

-- what is filled up is filled
full_occupied : (n : AdaptiveNet) (fs : List Filling) (x : ℕ) → is_full n fs x ≡ true → is_occupied fs x ≡ true
full_occupied n [] x e = absurd (cc)
full_occupied n (f ∷ fs) x e = elim (cases_eq f.at x) [
  | inl same ↦ ap (λ b. cond b true (is_occupied fs x)) (eq-eqb f.at x same)
  | inr apart ↦
      let d = ne_eqb f.at x apart in
      ap (λ b. cond b true (is_occupied fs x)) d
      ∙ full_occupied n fs x (sym (ap (λ b. cond b (enters_behind n f.to f.at f.before) (is_full n fs x)) d) ∙ e)
]

-- packets come to each filled channel
with_comes : (n : AdaptiveNet) (P : Filling → Type 0) (fs : List Filling) → FillInTurn n fs → All P fs → All (λ f. P f × Comes n f.to f.at) fs
with_comes n P [] turn all = All-nil (λ f. P f × Comes n f.to f.at)
with_comes n P (f ∷ fs) turn all =
    All-cons (λ f. P f × Comes n f.to f.at) f fs
    (All-head P f fs all, comes n f.to f.at f.before turn.0.way)
    (with_comes n P fs turn.1 (All-tail P f fs all))

-- what fills a channel
filled_by : (P : Filling → Type 0) (fs : List Filling) → All P fs → (x : ℕ) → is_occupied fs x ≡ true → (f : Filling) × P f × (f.at ≡ x)
filled_by P [] all x e = absurd (cc)
filled_by P (f ∷ fs) all x e = elim (cases_eq f.at x) [
  | inl same ↦ (f, All-head P f fs all, same)
  | inr apart ↦ filled_by P fs (All-tail P f fs all) x (sym (ap (λ b. cond b true (is_occupied fs x)) (ne_eqb f.at x apart)) ∙ e)
]

pub fillings_dead : (n : AdaptiveNet) (answers : ℕ → ℕ → Bool) (fs : List Filling) → IsDeadFilling n answers fs → IsDeadSet n answers (is_occupied fs)
fillings_dead n answers fs dead x e =
    let r = filled_by (λ f. WaitsForAll n answers fs f × Comes n f.to f.at) fs (with_comes n (WaitsForAll n answers fs) fs dead.in_turn dead.waits) x e in
    let f : Filling = r.0 in
    subst (λ z. (j : ℕ) × WaitsInside n answers (is_occupied fs) j z) r.2 (
      f.to,
      record {
        comes = r.1.1;
        choices = r.1.0.occupied;
        at_end = λ last. (let w = r.1.0.at_end last in (w.0, w.1, full_occupied n fs w.0 w.2));
      },
    )

module _ (n : AdaptiveNet) (answers : ℕ → ℕ → Bool) (number : ℕ → ℕ) (net : IsAdaptiveNet n) (ends : AreReplyEnds n answers) (rising : HasRisingChoices n answers number)
    (set : ℕ → Bool) (dead : IsDeadSet n answers set) where
  -- packets wait for a channel of the set with a greater number
  greater : (j x : ℕ) → WaitsInside n answers set j x → (b : Bool) → n.frame.ejects x ≡ b → (y : ℕ) × (set y ≡ true) × (number x < number y) × (y < n.frame.channels)
  greater j x w true last =
      let r = w.at_end last in
      let come : Comes n x x = subst (λ i. Comes n i x) (sym (net.arrives j x w.comes last)) w.comes in
      (r.0, r.2, rising.answered x r.0 come r.1, ends.to x r.0 r.1)
  greater j x w false input =
      let r = rising.rises j x w.comes input in
      (r.0, w.choices r.0 r.1, r.2, net.within j r.0 (ByChoice x r.0 w.comes r.1))

  out : (x : ℕ) → ((y : ℕ) → number x < number y → number y ≤ n.frame.channels → set y ≡ false) → set x ≡ false
  out x ih = elim (cases_Bool (set x)) [
    | inl up ↦ (let d = dead x up in
        let r = greater d.0 x d.1 (n.frame.ejects x) refl in
        let low = rising.bounded r.0 r.3 in
        let none : set r.0 ≡ false = ih r.0 r.2 (omega arith) in
        let some : set r.0 ≡ true = r.1 in
        absurd (cc))
    | inr down ↦ down
  ]

  pub none_in : (x : ℕ) → set x ≡ false
  none_in x = elim (cases_Bool (set x)) [
    | inl up ↦ (let d = dead x up in
        let low = rising.bounded x (net.within d.0 x (let w = d.1 in w.comes)) in
        by_falling number n.frame.channels (λ x. set x ≡ false) (λ x low ih. out x ih) x (omega arith))
    | inr down ↦ down
  ]

pub never_both : (n : AdaptiveNet) (answers : ℕ → ℕ → Bool) (number : ℕ → ℕ) → IsAdaptiveNet n → AreReplyEnds n answers → HasRisingChoices n answers number
    → (set : ℕ → Bool) → IsDeadSet n answers set → (x : ℕ) → set x ≡ false
never_both n answers number net ends rising set dead x = none_in n answers number net ends rising set dead x
