-- A list with the item at a place changed.
use Rattle.std.proofs.Common.{◌≡◌, ℕ, zero, suc, List, [], ◌∷◌, map, Some, refl, ap, slice_get, slice_set, slice_index_or}
use Rattle.std.specs.Prelude.{option_map}
use Rattle.std.proofs.lemmas.Option.{same_Some}
use Rattle.core_laws.specs.Appended.{changed_at}

module _ {A : Type 0} (f : A → A) where
  pub changed_set : (xs : List A) (p : ℕ) (d : A) → slice_set xs p (f (slice_index_or xs p d)) ≡ changed_at f xs p
  changed_set [] p d = refl
  changed_set (x ∷ xs) zero d = refl
  changed_set (x ∷ xs) (suc p) d = ap (λ (ys : List A). x ∷ ys) (changed_set xs p d)

  -- of an item that is there
  pub changed_is : (xs : List A) (p : ℕ) (x : A) → slice_get xs p ≡ Some x → changed_at f xs p ≡ slice_set xs p (f x)
  changed_is [] p x h = refl
  changed_is (y ∷ xs) zero x h = ap (λ (z : A). f z ∷ xs) (same_Some y x h)
  changed_is (y ∷ xs) (suc p) x h = ap (λ (ys : List A). y ∷ ys) (changed_is xs p x h)

  pub get_other : (xs : List A) (p i : ℕ) → (i ≡ p → ⊥) → slice_get (changed_at f xs p) i ≡ slice_get xs i
  get_other [] p i apart = refl
  get_other (x ∷ xs) zero zero apart = absurd (apart refl)
  get_other (x ∷ xs) zero (suc i) apart = refl
  get_other (x ∷ xs) (suc p) zero apart = refl
  get_other (x ∷ xs) (suc p) (suc i) apart = get_other xs p i (λ e. apart (ap suc e))

  pub get_same : (xs : List A) (p : ℕ) (x : A) → slice_get xs p ≡ Some x → slice_get (changed_at f xs p) p ≡ Some (f x)
  get_same [] p x h = absurd (cc)
  get_same (y ∷ xs) zero x h = ap (λ (z : A). Some (f z)) (same_Some y x h)
  get_same (y ∷ xs) (suc p) x h = get_same xs p x h

  pub set_other : (xs : List A) (p i : ℕ) (y : A) → (i ≡ p → ⊥)
      → slice_set (changed_at f xs p) i y ≡ changed_at f (slice_set xs i y) p
  set_other [] p i y apart = refl
  set_other (x ∷ xs) zero zero y apart = absurd (apart refl)
  set_other (x ∷ xs) zero (suc i) y apart = refl
  set_other (x ∷ xs) (suc p) zero y apart = refl
  set_other (x ∷ xs) (suc p) (suc i) y apart = ap (λ (zs : List A). x ∷ zs) (set_other xs p i y (λ e. apart (ap suc e)))

  pub set_same : (xs : List A) (p : ℕ) (y : A)
      → slice_set (changed_at f xs p) p (f y) ≡ changed_at f (slice_set xs p y) p
  set_same [] p y = refl
  set_same (x ∷ xs) zero y = refl
  set_same (x ∷ xs) (suc p) y = ap (λ (zs : List A). x ∷ zs) (set_same xs p y)

  -- what f keeps of an item
  pub part_same : {X : Type 0} (h : A → X) → ((a : A) → h (f a) ≡ h a) → (xs : List A) (p i : ℕ) (d : A)
      → h (slice_index_or (changed_at f xs p) i d) ≡ h (slice_index_or xs i d)
  part_same h keeps [] p i d = refl
  part_same h keeps (x ∷ xs) zero zero d = keeps x
  part_same h keeps (x ∷ xs) zero (suc i) d = refl
  part_same h keeps (x ∷ xs) (suc p) zero d = refl
  part_same h keeps (x ∷ xs) (suc p) (suc i) d = part_same h keeps xs p i d

  pub map_changed : {B : Type 0} (g : A → B) (e : B → B) → ((a : A) → g (f a) ≡ e (g a)) → (xs : List A) (p : ℕ)
      → map g (changed_at f xs p) ≡ changed_at e (map g xs) p
  map_changed {B = B} g e same [] p = refl
  map_changed {B = B} g e same (x ∷ xs) zero = ap (λ (b : B). b ∷ map g xs) (same x)
  map_changed {B = B} g e same (x ∷ xs) (suc p) = ap (λ (bs : List B). g x ∷ bs) (map_changed g e same xs p)

  -- what is told of the items by what f leaves as it was
  pub map_alike : {B C : Type 0} (h : A → B) (g : B → C) → ((a : A) → g (h (f a)) ≡ g (h a)) → (xs : List A) (p : ℕ)
      → map g (map h (changed_at f xs p)) ≡ map g (map h xs)
  map_alike h g same [] p = refl
  map_alike {C = C} h g same (x ∷ xs) zero = ap (λ (c : C). c ∷ map g (map h xs)) (same x)
  map_alike {C = C} h g same (x ∷ xs) (suc p) = ap (λ (cs : List C). g (h x) ∷ cs) (map_alike h g same xs p)

module _ {A : Type 0} where
  pub written_other : (xs : List A) (p i : ℕ) (y : A) → (i ≡ p → ⊥) → slice_get (slice_set xs i y) p ≡ slice_get xs p
  written_other [] p i y apart = refl
  written_other (x ∷ xs) zero zero y apart = absurd (apart refl)
  written_other (x ∷ xs) zero (suc i) y apart = refl
  written_other (x ∷ xs) (suc p) zero y apart = refl
  written_other (x ∷ xs) (suc p) (suc i) y apart = written_other xs p i y (λ e. apart (ap suc e))

  pub written_same : (xs : List A) (i : ℕ) (x y : A) → slice_get xs i ≡ Some x → slice_get (slice_set xs i y) i ≡ Some y
  written_same [] i x y h = absurd (cc)
  written_same (z ∷ xs) zero x y h = refl
  written_same (z ∷ xs) (suc i) x y h = written_same xs i x y h

pub get_map : {A : Type 0} (f : A → A) (xs : List A) (p : ℕ)
    → slice_get (changed_at f xs p) p ≡ option_map f (slice_get xs p)
get_map f [] p = refl
get_map f (x ∷ xs) zero = refl
get_map f (x ∷ xs) (suc p) = get_map f xs p
