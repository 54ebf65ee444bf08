-- Lists that only grow, and how many elements they have together.
use Rattle.std.proofs.Common.{◌≡◌, ◌≢◌, ⊎_elim, ℕ, zero, suc, ◌+◌, ◌<◌, ◌≤◌, List, [], ◌∷◌, length, Some, refl, sym, ap, subst, arith, slice_get}
use Rattle.std.proofs.lemmas.Bool.{cases_eq, cases_lt}
use Rattle.std.proofs.lemmas.Option.{slice_get_within}
use Rattle.one_order.specs.Observed.{list_at, total}
use Rattle.one_order.proofs.Lists.{within_length}

-- what keeps its elements does not get shorter
pub length_kept : {A : Type 0} (xs ys : List A) → ((i : ℕ) (x : A) → slice_get xs i ≡ Some x → slice_get ys i ≡ Some x) → length xs ≤ length ys
length_kept xs ys kept = ⊎_elim
    (λ (short : length ys < length xs).
    let at = within_length xs (length ys) short in
    let within = slice_get_within ys (length ys) at.0 (kept (length ys) at.0 at.1) in
    absurd (omega arith))
    (λ ok. ok)
    (cases_lt (length ys) (length xs))

-- what each step keeps stays
pub kept_along : {A : Type 0} (xs : ℕ → List A) (n : ℕ) → ((k i : ℕ) (x : A) → k < n → slice_get (xs k) i ≡ Some x → slice_get (xs (suc k)) i ≡ Some x)
    → (j k i : ℕ) (x : A) → j ≤ k → k ≤ n → slice_get (xs j) i ≡ Some x → slice_get (xs k) i ≡ Some x
kept_along xs n stays j zero i x l m h = let z : j ≡ 0 = omega arith in subst (λ (t : ℕ). slice_get (xs t) i ≡ Some x) z h
kept_along xs n stays j (suc k) i x l m h = ⊎_elim
    (λ (below : j < suc k). stays k i x (omega arith) (kept_along xs n stays j k i x (omega arith) (omega arith) h))
    (λ (above : suc k ≤ j). let z : j ≡ suc k = omega arith in subst (λ (t : ℕ). slice_get (xs t) i ≡ Some x) z h)
    (cases_lt j (suc k))

-- no list of the first is longer than that of the second
abbrev pub Grows : {A : Type 0} → List (List A) → List (List A) → Type 0
Grows xss yss = (p : ℕ) → length (list_at xss p) ≤ length (list_at yss p)

pub total_within : {A : Type 0} (xss : List (List A)) (p : ℕ) → length (list_at xss p) ≤ total xss
total_within [] p = omega arith
total_within (xs ∷ xss) zero = omega arith
total_within (xs ∷ xss) (suc p) = omega (arith, total_within xss p)

pub total_grows : {A : Type 0} (xss yss : List (List A)) → Grows xss yss → total xss ≤ total yss
total_grows [] yss h = omega arith
total_grows {A} (xs ∷ xss) [] h = omega (arith, h 0, total_grows {A = A} xss [] (λ p. h (suc p)))
total_grows (xs ∷ xss) (ys ∷ yss) h = omega (arith, h 0, total_grows xss yss (λ p. h (suc p)))

-- what one list has grown by, all have together
pub total_one : {A : Type 0} (xss yss : List (List A)) (p : ℕ) → Grows xss yss → total xss + length (list_at yss p) ≤ total yss + length (list_at xss p)
total_one [] yss p h = omega (arith, total_within yss p)
total_one {A} (xs ∷ xss) [] p h = omega (arith, total_grows {A = A} (xs ∷ xss) [] h)
total_one (xs ∷ xss) (ys ∷ yss) zero h = omega (arith, total_grows xss yss (λ q. h (suc q)))
total_one (xs ∷ xss) (ys ∷ yss) (suc p) h = omega (arith, h 0, total_one xss yss p (λ q. h (suc q)))

-- and what two have
pub total_two : {A : Type 0} (xss yss : List (List A)) (p q : ℕ) → Grows xss yss → p ≢ q
    → total xss + length (list_at yss p) + length (list_at yss q) ≤ total yss + length (list_at xss p) + length (list_at xss q)
total_two [] yss p q h other = two_within yss p q other
  where
    two_within : {A : Type 0} (yss : List (List A)) (p q : ℕ) → p ≢ q → 0 + length (list_at yss p) + length (list_at yss q) ≤ total yss + 0 + 0
    two_within [] p q other = omega arith
    two_within (ys ∷ yss) zero zero other = absurd (other refl)
    two_within (ys ∷ yss) zero (suc q) other = omega (arith, total_within yss q)
    two_within (ys ∷ yss) (suc p) zero other = omega (arith, total_within yss p)
    two_within (ys ∷ yss) (suc p) (suc q) other = omega (arith, two_within yss p q (λ e. other (ap suc e)))
total_two {A} (xs ∷ xss) [] p q h other = omega (arith, total_grows {A = A} (xs ∷ xss) [] h)
total_two (xs ∷ xss) (ys ∷ yss) zero zero h other = absurd (other refl)
total_two (xs ∷ xss) (ys ∷ yss) zero (suc q) h other = omega (arith, total_one xss yss q (λ r. h (suc r)))
total_two (xs ∷ xss) (ys ∷ yss) (suc p) zero h other = omega (arith, total_one xss yss p (λ r. h (suc r)))
total_two (xs ∷ xss) (ys ∷ yss) (suc p) (suc q) h other = omega (arith, h 0, total_two xss yss p q (λ r. h (suc r)) (λ e. other (ap suc e)))

-- the second has an i-th element in list p, which the first has not
pub record IsNew {A : Type 0} (xss yss : List (List A)) (p i : ℕ) : Type 0 where
  pub absent : length (list_at xss p) ≤ i
  pub present : i < length (list_at yss p)

pub total_new : {A : Type 0} (xss yss : List (List A)) (p i : ℕ) → Grows xss yss → IsNew xss yss p i → total xss < total yss
total_new xss yss p i h new = omega (arith, total_one xss yss p h, new.absent, new.present)

-- where lists have grown by one, one element is new
pub one_new : {A : Type 0} (xss yss : List (List A)) (p i q j : ℕ) → Grows xss yss → total yss ≤ suc (total xss) → IsNew xss yss p i → IsNew xss yss q j
    → (p ≡ q) × (i ≡ j)
one_new xss yss p i q j h one x y = ⊎_elim
    (λ (same : p ≡ q).
    let z : IsNew xss yss p j = subst (λ (r : ℕ). IsNew xss yss r j) (sym same) y in
    (same, omega (arith, total_one xss yss p h, x.absent, x.present, z.absent, z.present, one)))
    (λ (other : p ≢ q). absurd (omega (arith, total_two xss yss p q h other, x.absent, x.present, y.absent, y.present, one)))
    (cases_eq p q)
