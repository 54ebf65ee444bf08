-- Lists that grow at their ends, and their beginnings.
use Rattle.std.proofs.Common.{◌≡◌, ◌≢◌, ◌⊎◌, inl, inr, ⊎_elim, ℕ, zero, suc, ◌<◌, List, [], ◌∷◌, ◌++◌, length, Some, refl, ap, arith, slice_get, set, take}

pub get_push_cases : {A : Type 0} (xs : List A) (y : A) (k : ℕ) (x : A) → slice_get (xs ++ y ∷ []) k ≡ Some x
    → (slice_get xs k ≡ Some x) ⊎ ((k ≡ length xs) × (y ≡ x))
get_push_cases [] y zero x h = inr (refl, cc)
get_push_cases [] y (suc k) x h = cc
get_push_cases (z ∷ xs) y zero x h = inl h
get_push_cases (z ∷ xs) y (suc k) x h = ⊎_elim (λ l. inl l) (λ r. inr (ap suc r.0, r.1)) (get_push_cases xs y k x h)

pub get_append_left : {A : Type 0} (xs ys : List A) (k : ℕ) (x : A) → slice_get xs k ≡ Some x
    → slice_get (xs ++ ys) k ≡ Some x
get_append_left [] ys k x h = cc
get_append_left (z ∷ xs) ys zero x h = h
get_append_left (z ∷ xs) ys (suc k) x h = get_append_left xs ys k x h

pub get_push : {A : Type 0} (xs : List A) (y : A) → slice_get (xs ++ y ∷ []) (length xs) ≡ Some y
get_push [] y = refl
get_push (z ∷ xs) y = get_push xs y

-- one place has one element
pub same_get : {A : Type 0} (xs : List A) (k : ℕ) (x y : A) → slice_get xs k ≡ Some x → slice_get xs k ≡ Some y
    → x ≡ y
same_get xs k x y h i = cc

pub within_length : {A : Type 0} (xs : List A) (k : ℕ) → k < length xs → (x : A) × (slice_get xs k ≡ Some x)
within_length [] k h = absurd (omega arith)
within_length (x ∷ xs) zero h = (x, refl)
within_length (x ∷ xs) (suc k) h = within_length xs k (omega arith)

pub get_within : {A : Type 0} (xs : List A) (k : ℕ) (x : A) → slice_get xs k ≡ Some x → k < length xs
get_within [] k x h = cc
get_within (y ∷ xs) zero x h = omega arith
get_within (y ∷ xs) (suc k) x h = let l = get_within xs k x h in omega arith

-- a beginning has what stands there
pub get_take : {A : Type 0} (n : ℕ) (xs : List A) (k : ℕ) (x : A) → k < n → slice_get xs k ≡ Some x
    → slice_get (take n xs) k ≡ Some x
get_take zero xs k x l h = absurd (omega arith)
get_take (suc n) [] k x l h = cc
get_take (suc n) (y ∷ xs) zero x l h = h
get_take (suc n) (y ∷ xs) (suc k) x l h = get_take n xs k x (omega arith) h

pub take_get : {A : Type 0} (n : ℕ) (xs : List A) (k : ℕ) (x : A) → slice_get (take n xs) k ≡ Some x
    → (k < n) × (slice_get xs k ≡ Some x)
take_get zero xs k x h = cc
take_get (suc n) [] k x h = cc
take_get (suc n) (y ∷ xs) zero x h = (omega arith, h)
take_get (suc n) (y ∷ xs) (suc k) x h = let r = take_get n xs k x h in (omega arith, r.1)

-- a beginning and the next element
pub take_push : {A : Type 0} (xs : List A) (k : ℕ) (x : A) → slice_get xs k ≡ Some x
    → take (suc k) xs ≡ take k xs ++ x ∷ []
take_push [] k x h = cc
take_push (y ∷ xs) zero x h = let e : y ≡ x = cc in ap (λ z. z ∷ []) e
take_push (y ∷ xs) (suc k) x h = ap (λ zs. y ∷ zs) (take_push xs k x h)

-- a write
pub get_set_same : {A : Type 0} (xs : List A) (k : ℕ) (x y z : A) → slice_get xs k ≡ Some x
    → slice_get (set xs k y) k ≡ Some z → z ≡ y
get_set_same [] k x y z h i = cc
get_set_same (w ∷ xs) zero x y z h i = cc
get_set_same (w ∷ xs) (suc k) x y z h i = get_set_same xs k x y z h i

pub set_get_same : {A : Type 0} (xs : List A) (k : ℕ) (x y : A) → slice_get xs k ≡ Some x
    → slice_get (set xs k y) k ≡ Some y
set_get_same [] k x y h = cc
set_get_same (w ∷ xs) zero x y h = refl
set_get_same (w ∷ xs) (suc k) x y h = set_get_same xs k x y h

pub get_set_other : {A : Type 0} (xs : List A) (k j : ℕ) (y : A) → j ≢ k
    → slice_get (set xs k y) j ≡ slice_get xs j
get_set_other [] k j y n = refl
get_set_other (w ∷ xs) zero zero y n = absurd (n refl)
get_set_other (w ∷ xs) zero (suc j) y n = refl
get_set_other (w ∷ xs) (suc k) zero y n = refl
get_set_other (w ∷ xs) (suc k) (suc j) y n = get_set_other xs k j y (λ e. n (ap suc e))
