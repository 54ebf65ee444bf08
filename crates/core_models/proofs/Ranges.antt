-- Lists made of the numbers of a range, and what stands at a place of a list.
use Rattle.std.proofs.Common.{◌≡◌, inl, inr, ℕ, zero, suc, ◌+◌, ◌<◌, ◌≤◌, List, [], ◌∷◌, length, map, Some, refl, ap, arith, slice_get}
use Rattle.std.specs.Prelude.{slice_index_or}
use Rattle.std.specs.List.{range_with_len}
use Rattle.std.proofs.lemmas.Bool.{cases_eq}
use Rattle.std.proofs.lemmas.Option.{same_Some}
use Rattle.core_models.proofs.Rising.{Each, Rising, Has}

pub get_map : {A B : Type 0} (f : A → B) (xs : List A) (k : ℕ) (y : B) → slice_get (map f xs) k ≡ Some y
    → (x : A) × (slice_get xs k ≡ Some x) × (f x ≡ y)
get_map f [] k y h = absurd (cc)
get_map f (x ∷ xs) zero y h = (x, refl, same_Some (f x) y h)
get_map f (x ∷ xs) (suc k) y h = get_map f xs k y h

pub get_range : (n a k x : ℕ) → slice_get (range_with_len a n) k ≡ Some x → x ≡ a + k
get_range zero a k x h = absurd (cc)
get_range (suc n) a zero x h = let same = same_Some a x h in omega (arith, same)
get_range (suc n) a (suc k) x h = let rest = get_range n (a + 1) k x h in omega (arith, rest)

pub length_map : {A B : Type 0} (f : A → B) (xs : List A) → length (map f xs) ≡ length xs
length_map f [] = refl
length_map f (x ∷ xs) = ap suc (length_map f xs)

pub length_range : (n a : ℕ) → length (range_with_len a n) ≡ n
length_range zero a = refl
length_range (suc n) a = ap suc (length_range n (a + 1))

pub each_range : {A : Type 0} (P : A → Type 0) (f : ℕ → A) (n a : ℕ) → ((p : ℕ) → a ≤ p → p < a + n → P (f p)) → Each P (map f (range_with_len a n))
each_range P f zero a h = tt
each_range P f (suc n) a h = (h a (omega arith) (omega arith), each_range P f n (a + 1) (λ p low high. h p (omega arith) (omega arith)))

pub rising_range : {A : Type 0} (R : A → A → Type 0) (f : ℕ → A) (n a : ℕ) → ((p q : ℕ) → p < q → R (f p) (f q)) → Rising R (map f (range_with_len a n))
rising_range R f zero a h = tt
rising_range R f (suc n) a h = (each_range (R (f a)) f n (a + 1) (λ q low high. h a q (omega arith)), rising_range R f n (a + 1) h)

pub has_range : {A : Type 0} (f : ℕ → A) (n a p : ℕ) → a ≤ p → p < a + n → Has (map f (range_with_len a n)) (f p)
has_range f zero a p low high = absurd (omega arith)
has_range f (suc n) a p low high = elim (cases_eq a p) [
  | inl here ↦ inl (ap f here)
  | inr later ↦ inr (has_range f n (a + 1) p (omega (arith, later, low)) (omega arith))
]

pub get_within : {A : Type 0} (xs : List A) (d : A) (x : ℕ) → x < length xs → slice_get xs x ≡ Some (slice_index_or xs x d)
get_within [] d x low = absurd (omega arith)
get_within (y ∷ ys) d zero low = refl
get_within (y ∷ ys) d (suc x) low = get_within ys d x (omega arith)

pub index_of_get : {A : Type 0} (xs : List A) (d : A) (k : ℕ) (x : A) → slice_get xs k ≡ Some x → slice_index_or xs k d ≡ x
index_of_get [] d k x h = absurd (cc)
index_of_get (y ∷ ys) d zero x h = same_Some y x h
index_of_get (y ∷ ys) d (suc k) x h = index_of_get ys d k x h

pub each_numbers : (P : ℕ → Type 0) (n a : ℕ) → ((p : ℕ) → a ≤ p → p < a + n → P p) → Each P (range_with_len a n)
each_numbers P zero a h = tt
each_numbers P (suc n) a h = (h a (omega arith) (omega arith), each_numbers P n (a + 1) (λ p low high. h p (omega arith) (omega arith)))

pub rising_numbers : (R : ℕ → ℕ → Type 0) (n a : ℕ) → ((p q : ℕ) → p < q → R p q) → Rising R (range_with_len a n)
rising_numbers R zero a h = tt
rising_numbers R (suc n) a h = (each_numbers (R a) n (a + 1) (λ q low high. h a q (omega arith)), rising_numbers R n (a + 1) h)

pub has_numbers : (n a p : ℕ) → a ≤ p → p < a + n → Has (range_with_len a n) p
has_numbers zero a p low high = absurd (omega arith)
has_numbers (suc n) a p low high = elim (cases_eq a p) [
  | inl here ↦ inl here
  | inr later ↦ inr (has_numbers n (a + 1) p (omega (arith, later, low)) (omega arith))
]

pub get_map_range : {A : Type 0} (f : ℕ → A) (n a k j : ℕ) → k < n → a + k ≡ j → slice_get (map f (range_with_len a n)) k ≡ Some (f j)
get_map_range f zero a k j low is = absurd (omega arith)
get_map_range f (suc n) a zero j low is = (let e : a ≡ j = omega (arith, is) in ap (λ i. Some (f i)) e)
get_map_range f (suc n) a (suc k) j low is = get_map_range f n (a + 1) k j (omega arith) (omega (arith, is))

pub get_of_map : {A B : Type 0} (f : A → B) (xs : List A) (k : ℕ) (x : A) → slice_get xs k ≡ Some x → slice_get (map f xs) k ≡ Some (f x)
get_of_map f [] k x h = absurd (cc)
get_of_map f (y ∷ ys) zero x h = ap (λ z. Some (f z)) (same_Some y x h)
get_of_map f (y ∷ ys) (suc k) x h = get_of_map f ys k x h
