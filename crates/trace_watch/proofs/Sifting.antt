-- The loops that keep some operations.
use Rattle.std.proofs.Common.{◌≡◌, ◌≢◌, ◌↔◌, ⊎_elim, ℕ, zero, suc, ◌+◌, ◌<◌, ◌≤◌, List, [], ◌∷◌, ◌++◌, length, Some, None, refl, sym, ◌∙◌, ap, subst}
use Rattle.std.proofs.Common.{arith, slice_get}
use Rattle.std.specs.Prelude.{drop}
use Rattle.std.proofs.lemmas.Bool.{cases_eq}
use Rattle.trace_laws.proofs.Lists.{get_push_cases, get_append_left, get_push, get_within}
use Rattle.trace_laws.specs.Configs.{IsIn}

-- what one list has of the other up to place i
pub record Filtered {A : Type 0} (keeps : A → Type 0) (xs : List A) (i : ℕ) (ys : List A) : Type 0 where
  pub from : (x : A) → IsIn ys x → IsIn xs x × keeps x
  pub has : (k : ℕ) (x : A) → k < i → slice_get xs k ≡ Some x → keeps x → IsIn ys x

pub filtered_none : {A : Type 0} (keeps : A → Type 0) (xs : List A) → Filtered keeps xs 0 []
filtered_none keeps xs = record {
  from = λ x on. absurd (let h : None ≡ Some x = on.1 in cc);
  has = λ k x l h p. absurd (omega arith);
}

pub filtered_skip : {A : Type 0} (keeps : A → Type 0) (xs : List A) (i : ℕ) (ys : List A) (y : A)
    → slice_get xs i ≡ Some y → (keeps y → ⊥) → Filtered keeps xs i ys → Filtered keeps xs (i + 1) ys
filtered_skip keeps xs i ys y at never was = record {
  from = was.from;
  has = λ k x l h p. ⊎_elim {C = IsIn ys x}
      (λ (e : k ≡ i).
      let here : slice_get xs i ≡ Some x = ap (λ (n : ℕ). slice_get xs n) (sym e) ∙ h in
      let same : x ≡ y = cc in
      absurd (never (subst keeps same p)))
      (λ (ne : k ≢ i). was.has k x (omega arith) h p)
      (cases_eq k i);
}

filtered_push : {A : Type 0} (keeps : A → Type 0) (xs : List A) (i : ℕ) (ys : List A) (y : A)
    → slice_get xs i ≡ Some y → keeps y → Filtered keeps xs i ys → Filtered keeps xs (i + 1) (ys ++ y ∷ [])
filtered_push {A} keeps xs i ys y at good was = record {
  from = λ x on. ⊎_elim {C = IsIn xs x × keeps x}
      (λ (old : slice_get ys on.0 ≡ Some x). was.from x (on.0, old))
      (λ (new : (on.0 ≡ length ys) × (y ≡ x)).
      ((i, at ∙ ap (λ (z : A). Some z) new.1), subst keeps new.1 good))
      (get_push_cases ys y on.0 x on.1);
  has = λ k x l h p. ⊎_elim {C = IsIn (ys ++ y ∷ []) x}
      (λ (e : k ≡ i).
      let here : slice_get xs i ≡ Some x = ap (λ (n : ℕ). slice_get xs n) (sym e) ∙ h in
      let same : y ≡ x = cc in
      (length ys, get_push ys y ∙ ap (λ (z : A). Some z) same))
      (λ (ne : k ≢ i). let r = was.has k x (omega arith) h p in (r.0, get_append_left ys (y ∷ []) r.0 x r.1))
      (cases_eq k i);
}

pub filtered_pushed : {A : Type 0} (keeps : A → Type 0) (xs : List A) (i : ℕ) (ys zs : List A) (y : A)
    → slice_get xs i ≡ Some y → keeps y → zs ≡ ys ++ y ∷ [] → Filtered keeps xs i ys → Filtered keeps xs (i + 1) zs
filtered_pushed {A} keeps xs i ys zs y at good pushed was =
    subst (λ (ws : List A). Filtered keeps xs (i + 1) ws) (sym pushed) (filtered_push keeps xs i ys y at good was)

pub filtered_all : {A : Type 0} (keeps : A → Type 0) (xs : List A) (i : ℕ) (ys : List A) → length xs ≤ i
    → Filtered keeps xs i ys → (x : A) → IsIn ys x ↔ (IsIn xs x × keeps x)
filtered_all keeps xs i ys all was = λ x. (
  (λ on. was.from x on),
  (λ r. was.has r.0.0 x (let l = get_within xs r.0.0 x r.0.1 in omega arith) r.0.1 r.1),
)

-- what stands from a place on
pub drop_at : {A : Type 0} (xs : List A) (i : ℕ) (x : A) → slice_get xs i ≡ Some x → drop i xs ≡ x ∷ drop (suc i) xs
drop_at [] i x h = absurd (let e : None ≡ Some x = h in cc)
drop_at {A} (y ∷ xs) zero x h = let e : y ≡ x = cc in ap (λ (z : A). z ∷ xs) e
drop_at (y ∷ xs) (suc i) x h = drop_at xs i x h

pub drop_end : {A : Type 0} (xs : List A) (i : ℕ) → length xs ≤ i → drop i xs ≡ []
drop_end [] zero l = refl
drop_end [] (suc i) l = refl
drop_end (y ∷ xs) zero l = absurd (omega arith)
drop_end (y ∷ xs) (suc i) l = drop_end xs i (omega arith)
