-- Values that are taken out of some slots of a list.
use Rattle.std.proofs.Common.{◌≡◌, ◌≢◌, ◌⊎◌, ⊎_elim, ◌++◌, inl, inr, Bool, true, false, ℕ, zero, suc, ◌+◌, ◌<◌, ◌≤◌, List, [], ◌∷◌, length, Option, Some}
use Rattle.std.proofs.Common.{None, refl, sym, ap, ◌∙◌, subst, arith}
use Rattle.std.specs.Prelude.{slice_get, ◌↔◌}
use mathlib.Core.Logic.{dite}
use native.Mathlib.Decide.{ℕ_discrete}
use Rattle.std.proofs.lemmas.Option.{same_Some, none-some, slice_get_past}
use Rattle.std.proofs.lemmas.Bool.{cases_lt}

-- one slot more
module _ {T : Type 0} where
  get_push_left : (xs : List T) (a : T) (k : ℕ) → k < length xs → slice_get (xs ++ a ∷ []) k ≡ slice_get xs k
  get_push_left [] a k h = absurd (omega arith)
  get_push_left (x ∷ xs) a zero h = refl
  get_push_left (x ∷ xs) a (suc k) h = get_push_left xs a k (omega arith)

  get_push_here : (xs : List T) (a : T) (k : ℕ) → k ≡ length xs → slice_get (xs ++ a ∷ []) k ≡ Some a
  get_push_here [] a zero h = refl
  get_push_here [] a (suc k) h = absurd (omega arith)
  get_push_here (x ∷ xs) a zero h = absurd (omega arith)
  get_push_here (x ∷ xs) a (suc k) h = get_push_here xs a k (omega arith)

  get_push_was : (xs : List T) (a b : T) (k : ℕ) → slice_get (xs ++ a ∷ []) k ≡ Some b → (slice_get xs k ≡ Some b) ⊎ ((k ≡ length xs) × (a ≡ b))
  get_push_was [] a b zero e = inr (refl, same_Some a b e)
  get_push_was [] a b (suc k) e = absurd (none-some b e)
  get_push_was (x ∷ xs) a b zero e = inl e
  get_push_was (x ∷ xs) a b (suc k) e = ⊎_elim (λ p. inl p) (λ p. inr (ap suc p.0, p.1)) (get_push_was xs a b k e)

-- the slot t is looked at: I are the slots at first, A and B those before and after, S and R those taken
module _ {T : Type 0} (I A B S R : List (Option T)) (from to t : ℕ) (slot : Option T) (w : Bool) (is : (w ≡ true) ↔ ((from ≤ t) × (t < to)))
    (push : R ≡ S ++ slot ∷ []) (len : length S ≡ t)
    (wanted : w ≡ true → slice_get A t ≡ Some slot) (unwanted : w ≡ false → (slot ≡ None) × (B ≡ A)) (others : (k : ℕ) → k ≢ t → slice_get B k ≡ slice_get A k)
  where
    pub inside_more : ((k : ℕ) → from ≤ k → k < to → k < t → slice_get S k ≡ slice_get I k) → ((k : ℕ) → t ≤ k → slice_get A k ≡ slice_get I k) → (k : ℕ)
        → from ≤ k → k < to → k < t + 1 → slice_get R k ≡ slice_get I k
    inside_more inside untouched k lo hi lt = dite (ℕ_discrete k t)
        (λ e. ap (λ l. slice_get l k) push ∙ get_push_here S slot k (e ∙ sym len)
        ∙ sym (subst (λ n. slice_get A n ≡ Some slot) (sym e) (wanted (is.1 (subst (λ n. (from ≤ n) × (n < to)) e (lo, hi))))) ∙ untouched k (omega arith))
        (λ n. ap (λ l. slice_get l k) push ∙ get_push_left S slot k (omega arith) ∙ inside k lo hi (omega arith))

    outside_by : (b : Bool) → w ≡ b → (x : T) → slot ≡ Some x → (from ≤ t) × (t < to)
    outside_by true e x s = is.0 e
    outside_by false e x s = absurd (none-some x (sym (unwanted e).0 ∙ s))

    pub outside_more : ((k : ℕ) (x : T) → slice_get S k ≡ Some (Some x) → (from ≤ k) × (k < to)) → (k : ℕ) (x : T) → slice_get R k ≡ Some (Some x)
        → (from ≤ k) × (k < to)
    outside_more outside k x e = ⊎_elim
        (λ p. outside k x p)
        (λ p. subst (λ n. (from ≤ n) × (n < to)) (sym (p.0 ∙ len)) (outside_by w refl x p.1))
        (get_push_was S slot (Some x) k (sym (ap (λ l. slice_get l k) push) ∙ e))

    pub untouched_more : ((k : ℕ) → t ≤ k → slice_get A k ≡ slice_get I k) → (k : ℕ) → t + 1 ≤ k → slice_get B k ≡ slice_get I k
    untouched_more untouched k le = others k (λ e. absurd (omega arith)) ∙ untouched k (omega arith)

    rest_by : (b : Bool) → w ≡ b → to ≤ t → B ≡ A
    rest_by true e le = let p = (is.0 e).1 in absurd (omega arith)
    rest_by false e le = (unwanted e).1

    pub rest_more : ((k : ℕ) → to ≤ k → slice_get A k ≡ slice_get I k) → (k : ℕ) → to ≤ k → slice_get B k ≡ slice_get I k
    rest_more rest k le = dite (ℕ_discrete k t)
        (λ e. ap (λ l. slice_get l k) (rest_by w refl (subst (λ n. to ≤ n) e le)) ∙ rest k le)
        (λ n. others k n ∙ rest k le)

-- at the end of all slots
pub inside_all : {T : Type 0} (I S : List (Option T)) (from to t : ℕ) → length S ≡ t → length I ≤ t
    → ((k : ℕ) → from ≤ k → k < to → k < t → slice_get S k ≡ slice_get I k) → (k : ℕ) → from ≤ k → k < to → slice_get S k ≡ slice_get I k
inside_all I S from to t len past inside k lo hi = ⊎_elim
    (λ (low : k < t). inside k lo hi low)
    (λ (high : t ≤ k). slice_get_past S k (omega arith) ∙ sym (slice_get_past I k (omega arith)))
    (cases_lt k t)
