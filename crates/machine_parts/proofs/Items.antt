-- Lists of which one item is changed, or all up to a place.
use Rattle.std.proofs.Common.{◌≡◌, ℕ, zero, suc, ◌+◌, ◌<◌, ◌≤◌, List, [], ◌∷◌, map, length, Some, refl, sym, ◌∙◌, ap, arith, slice_get, slice_set}
use Rattle.std.proofs.Common.{slice_index_or, add-one}
use Rattle.std.proofs.lemmas.Option.{same_Some, slice_get-get_or}
use Rattle.core_laws.specs.Appended.{changed_at}
use Rattle.core_laws.proofs.Places.{changed_is}

-- an item of a list
pub seen_at : {A : Type 0} (xs : List A) (k : ℕ) (x : A) → k < length xs → x ≡ slice_index_or xs k x → slice_get xs k ≡ Some x
seen_at xs k x h e = slice_get-get_or xs k x h ∙ ap Some (sym e)

-- an item that is written over itself
pub same_there : {A : Type 0} (xs : List A) (k : ℕ) (x y : A) → k < length xs → x ≡ slice_index_or xs k x → y ≡ x → slice_set xs k y ≡ xs
same_there [] k x y h e same = refl
same_there (z ∷ xs) zero x y h e same = ap (λ w. w ∷ xs) (same ∙ e)
same_there (z ∷ xs) (suc k) x y h e same = ap (λ ws. z ∷ ws) (same_there xs k x y (omega (arith, h)) e same)

module _ {A : Type 0} (f : A → A) where
  -- one item changed
  pub changed_to : (xs : List A) (k : ℕ) (x y : A) → k < length xs → x ≡ slice_index_or xs k x → y ≡ f x → slice_set xs k y ≡ changed_at f xs k
  changed_to xs k x y h e is = ap (slice_set xs k) is ∙ sym (changed_is f xs k x (seen_at xs k x h e))

  pub changed_long : (xs : List A) (k : ℕ) → length (changed_at f xs k) ≡ length xs
  changed_long [] k = refl
  changed_long (x ∷ xs) zero = refl
  changed_long (x ∷ xs) (suc k) = let rest = changed_long xs k in omega (arith, rest)

  -- and changed back
  pub changed_back : (g : A → A) → ((x : A) → g (f x) ≡ x) → (xs : List A) (k : ℕ) → changed_at g (changed_at f xs k) k ≡ xs
  changed_back g back [] k = refl
  changed_back g back (x ∷ xs) zero = ap (λ y. y ∷ xs) (back x)
  changed_back g back (x ∷ xs) (suc k) = ap (λ ys. x ∷ ys) (changed_back g back xs k)

  -- what is told of the items, where f leaves it
  pub kept : {B : Type 0} (g : A → B) → ((a : A) → g (f a) ≡ g a) → (xs : List A) (p : ℕ) → map g (changed_at f xs p) ≡ map g xs
  kept g same [] p = refl
  kept {B = B} g same (x ∷ xs) zero = ap (λ (b : B). b ∷ map g xs) (same x)
  kept {B = B} g same (x ∷ xs) (suc p) = ap (λ (bs : List B). g x ∷ bs) (kept g same xs p)

  -- an item of the changed list, by that of the list before, where it is told of by what f leaves
  pub kept_at : {B : Type 0} (g : A → B) → ((a : A) → g (f a) ≡ g a) → (xs : List A) (p k : ℕ) (y : A) → slice_get (changed_at f xs p) k ≡ Some y
      → (x : A) × (slice_get xs k ≡ Some x) × (g y ≡ g x)
  kept_at g same [] p k y at = absurd (cc)
  kept_at g same (x ∷ xs) zero zero y at = (x, refl, ap g (sym (same_Some _ _ at)) ∙ same x)
  kept_at g same (x ∷ xs) zero (suc k) y at = (y, at, refl)
  kept_at g same (x ∷ xs) (suc p) zero y at = (y, at, refl)
  kept_at g same (x ∷ xs) (suc p) (suc k) y at = kept_at g same xs p k y at

  -- the items changed up to a place
  abbrev pub changed_up_to : ℕ → List A → List A
  changed_up_to zero xs = xs
  changed_up_to (suc n) [] = []
  changed_up_to (suc n) (x ∷ xs) = f x ∷ changed_up_to n xs

  pub up_to_long : (n : ℕ) (xs : List A) → length (changed_up_to n xs) ≡ length xs
  up_to_long zero xs = refl
  up_to_long (suc n) [] = refl
  up_to_long (suc n) (x ∷ xs) = let rest = up_to_long n xs in omega (arith, rest)

  one_further : (n : ℕ) (xs : List A) (x : A) → slice_get (changed_up_to n xs) n ≡ Some x → slice_set (changed_up_to n xs) n (f x) ≡ changed_up_to (suc n) xs
  one_further zero [] x at = absurd (cc)
  one_further zero (y ∷ xs) x at = ap (λ z. f z ∷ xs) (sym (same_Some _ _ at))
  one_further (suc n) [] x at = absurd (cc)
  one_further (suc n) (y ∷ xs) x at = ap (λ zs. f y ∷ zs) (one_further n xs x at)

  pub further : (n : ℕ) (xs ys : List A) (x y : A) → ys ≡ changed_up_to n xs → slice_get ys n ≡ Some x → y ≡ f x → slice_set ys n y ≡ changed_up_to (n + 1) xs
  further n xs ys x y are at is =
      ap (λ zs. slice_set zs n y) are
      ∙ (ap (slice_set (changed_up_to n xs) n) is
      ∙ (one_further n xs x (ap (λ zs. slice_get zs n) (sym are) ∙ at) ∙ ap (λ k. changed_up_to k xs) (sym (add-one n))))

  pub all_changed : (n : ℕ) (xs : List A) → length xs ≤ n → changed_up_to n xs ≡ map f xs
  all_changed zero [] h = refl
  all_changed zero (x ∷ xs) h = absurd (omega (arith, h))
  all_changed (suc n) [] h = refl
  all_changed (suc n) (x ∷ xs) h = ap (λ ys. f x ∷ ys) (all_changed n xs (omega (arith, h)))
