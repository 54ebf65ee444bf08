-- Elements that pass a test, counted.
use Rattle.std.proofs.Common.{◌≡◌, ◌⊎◌, inl, inr, ℕ, zero, suc, ◌+◌, ◌<◌, ◌≤◌, cond, Bool, true, false, List, [], ◌∷◌, take, Some, slice_get, refl, ap, ◌∙◌}
use Rattle.std.proofs.Common.{arith, ⊎_elim}
use Rattle.std.specs.Prelude.{count_by}
use Rattle.std.proofs.lemmas.Bool.{cases_lt}
use Rattle.std.proofs.lemmas.List.Sums.{sum_by-cons}

abbrev one_if : Bool → ℕ
one_if b = cond b 1 0

count-cons : {X : Type 0} (f : X → Bool) (x : X) (xs : List X) → count_by f (x ∷ xs) ≡ one_if (f x) + count_by f xs
count-cons f x xs = sum_by-cons (λ y. one_if (f y)) x xs

bool_cases : (b : Bool) → (b ≡ true) ⊎ (b ≡ false)
bool_cases true = inl refl
bool_cases false = inr refl

-- an element that passes counts behind those before it
pub count_at : {X : Type 0} (f : X → Bool) (xs : List X) (k : ℕ) (x : X) → slice_get xs k ≡ Some x → f x ≡ true → count_by f (take k xs) + 1 ≤ count_by f xs
count_at f [] k x there is = cc
count_at {X} f (y ∷ xs) zero x there is =
    let same : y ≡ x = cc in
    let all = count-cons f y xs in
    let one : one_if (f y) ≡ 1 = ap one_if (ap f same ∙ is) in
    omega (arith, all, one)
count_at f (y ∷ xs) (suc k) x there is =
    let all = count-cons f y xs in
    let front = count-cons f y (take k xs) in
    omega (arith, all, front, count_at f xs k x there is)

-- the last element that passes
pub last_at : {X : Type 0} (f : X → Bool) (xs : List X) → 0 < count_by f xs
    → (k : ℕ) × (x : X) × (slice_get xs k ≡ Some x) × (f x ≡ true) × (count_by f (take k xs) + 1 ≡ count_by f xs)
last_at f [] some = absurd (omega (arith, some))
last_at f (y ∷ xs) some =
    let all : count_by f (y ∷ xs) ≡ one_if (f y) + count_by f xs = count-cons f y xs in
    ⊎_elim
    (λ (more : 0 < count_by f xs).
    let later = last_at f xs more in
    let front : count_by f (y ∷ take later.0 xs) ≡ one_if (f y) + count_by f (take later.0 xs) = count-cons f y (take later.0 xs) in
    let here = later.4 in
    (suc later.0, later.1, later.2, later.3, omega (arith, front, all, here)))
    (λ (none : count_by f xs ≤ 0).
    ⊎_elim
    (λ (passes : f y ≡ true). let one : one_if (f y) ≡ 1 = ap one_if passes in (0, y, refl, passes, omega (arith, all, one, none)))
    (λ (fails : f y ≡ false). let zero_here : one_if (f y) ≡ 0 = ap one_if fails in absurd (omega (arith, all, zero_here, none, some)))
    (bool_cases (f y)))
    (cases_lt 0 (count_by f xs))
