-- How many elements before a place pass a test, and which element is the n-th that passes.
use Rattle.std.proofs.Common.{◌≡◌, ⊎_elim, ℕ, zero, suc, ◌+◌, ◌<◌, ◌≤◌, Bool, true, false, cond, List, [], ◌∷◌, length, take, Some, refl, ◌∙◌, ap, arith}
use Rattle.std.proofs.Common.{slice_get}
use Rattle.std.specs.Prelude.{count_by, filter}
use Rattle.std.proofs.lemmas.Bool.{cases_lt, cond-true, cond-false}
use Rattle.std.proofs.lemmas.List.Sums.{sum_by-cons}
use Rattle.std.proofs.lemmas.Option.{same_Some}

pub count_cons : {A : Type 0} (p : A → Bool) (x : A) (xs : List A) → count_by p (x ∷ xs) ≡ cond (p x) 1 0 + count_by p xs
count_cons p x xs = sum_by-cons (λ y. cond (p y) 1 0) x xs

pub count_yes : {A : Type 0} (p : A → Bool) (x : A) (xs : List A) → p x ≡ true → count_by p (x ∷ xs) ≡ suc (count_by p xs)
count_yes p x xs h = omega (arith, count_cons p x xs, cond-true {A = ℕ} (p x) 1 0 h)

pub count_no : {A : Type 0} (p : A → Bool) (x : A) (xs : List A) → p x ≡ false → count_by p (x ∷ xs) ≡ count_by p xs
count_no p x xs h = omega (arith, count_cons p x xs, cond-false {A = ℕ} (p x) 1 0 h)

-- one that passes counts for those behind it
pub count_strict : {A : Type 0} (p : A → Bool) (xs : List A) (j k : ℕ) (x : A) → slice_get xs j ≡ Some x → p x ≡ true → j < k
    → count_by p (take j xs) < count_by p (take k xs)
count_strict p [] j k x h passes l = absurd (cc)
count_strict p (y ∷ ys) j zero x h passes l = absurd (omega arith)
count_strict p (y ∷ ys) zero (suc k) x h passes l =
    let same : y ≡ x = same_Some y x h in
    omega (arith, count_yes p y (take k ys) (ap p same ∙ passes))
count_strict p (y ∷ ys) (suc j) (suc k) x h passes l =
    omega (arith, count_cons p y (take j ys), count_cons p y (take k ys), count_strict p ys j k x h passes (omega arith))

-- and in the whole
pub count_below : {A : Type 0} (p : A → Bool) (xs : List A) (k : ℕ) (x : A) → slice_get xs k ≡ Some x → p x ≡ true → count_by p (take k xs) < count_by p xs
count_below p [] k x h passes = absurd (cc)
count_below p (y ∷ ys) zero x h passes =
    let same : y ≡ x = same_Some y x h in
    omega (arith, count_yes p y ys (ap p same ∙ passes))
count_below p (y ∷ ys) (suc k) x h passes =
    omega (arith, count_cons p y (take k ys), count_cons p y ys, count_below p ys k x h passes)

-- so two that pass, of one count, are one
pub count_apart : {A : Type 0} (p : A → Bool) (xs : List A) (j k : ℕ) (x y : A) → slice_get xs j ≡ Some x → slice_get xs k ≡ Some y → p x ≡ true → p y ≡ true
    → count_by p (take j xs) ≡ count_by p (take k xs) → j ≡ k
count_apart p xs j k x y hj hk px py same = ⊎_elim
    (λ (l : j < k). absurd (omega (arith, same, count_strict p xs j k x hj px l)))
    (λ (g : k ≤ j). ⊎_elim
    (λ (l : k < j). absurd (omega (arith, same, count_strict p xs k j y hk py l)))
    (λ (l : j ≤ k). omega arith)
    (cases_lt k j))
    (cases_lt j k)

-- the n-th that passes
pub record Nth {A : Type 0} (p : A → Bool) (xs : List A) (n : ℕ) : Type 0 where
  pub k : ℕ
  pub element : A
  pub there : slice_get xs k ≡ Some element
  pub passes : p element ≡ true
  pub counts : count_by p (take k xs) ≡ n

nth_here : {A : Type 0} (p : A → Bool) (y : A) (ys : List A) (n : ℕ) → p y ≡ true → n < count_by p (y ∷ ys) → ((m : ℕ) → m < count_by p ys → Nth p ys m)
    → Nth p (y ∷ ys) n
nth_here p y ys zero h l rest = record { k = 0; element = y; there = refl; passes = h; counts = refl }
nth_here p y ys (suc n) h l rest =
    let old = rest n (omega (arith, l, count_yes p y ys h)) in
    record { k = suc old.k; element = old.element; there = old.there; passes = old.passes; counts = omega (arith, old.counts, count_yes p y (take old.k ys) h) }

nth_on : {A : Type 0} (p : A → Bool) (y : A) (ys : List A) (n : ℕ) (b : Bool) → p y ≡ b → n < count_by p (y ∷ ys) → ((m : ℕ) → m < count_by p ys → Nth p ys m)
    → Nth p (y ∷ ys) n
nth_on p y ys n true h l rest = nth_here p y ys n h l rest
nth_on p y ys n false h l rest =
    let old = rest n (omega (arith, l, count_no p y ys h)) in
    record { k = suc old.k; element = old.element; there = old.there; passes = old.passes; counts = count_no p y (take old.k ys) h ∙ old.counts }

pub nth : {A : Type 0} (p : A → Bool) (xs : List A) (n : ℕ) → n < count_by p xs → Nth p xs n
nth p [] n h = absurd (omega arith)
nth p (y ∷ ys) n h = nth_on p y ys n (p y) refl h (λ m l. nth p ys m l)

filter_next : {A : Type 0} (p : A → Bool) (y : A) (ys : List A) (k : ℕ) (x : A) (b : Bool) → p y ≡ b → slice_get (filter p ys) (count_by p (take k ys)) ≡ Some x
    → slice_get (filter p (y ∷ ys)) (count_by p (y ∷ take k ys)) ≡ Some x
filter_next p y ys k x true e rest =
    ap (λ zs. slice_get zs (count_by p (y ∷ take k ys))) (cond-true (p y) (y ∷ filter p ys) (filter p ys) e)
    ∙ (ap (slice_get (y ∷ filter p ys)) (count_yes p y (take k ys) e) ∙ rest)
filter_next p y ys k x false e rest =
    ap (λ zs. slice_get zs (count_by p (y ∷ take k ys))) (cond-false (p y) (y ∷ filter p ys) (filter p ys) e)
    ∙ (ap (slice_get (filter p ys)) (count_no p y (take k ys) e) ∙ rest)

-- where it stands in what the test leaves
pub filter_at : {A : Type 0} (p : A → Bool) (xs : List A) (k : ℕ) (x : A) → slice_get xs k ≡ Some x → p x ≡ true
    → slice_get (filter p xs) (count_by p (take k xs)) ≡ Some x
filter_at p [] k x h passes = absurd (cc)
filter_at p (y ∷ ys) zero x h passes =
    let same : y ≡ x = same_Some y x h in
    ap (λ zs. slice_get zs 0) (cond-true (p y) (y ∷ filter p ys) (filter p ys) (ap p same ∙ passes)) ∙ h
filter_at p (y ∷ ys) (suc k) x h passes = filter_next p y ys k x (p y) refl (filter_at p ys k x h passes)

-- lists of one length, with the same elements
pub same_lists : {A : Type 0} (xs ys : List A) → length xs ≡ length ys → ((k : ℕ) (x y : A) → slice_get xs k ≡ Some x → slice_get ys k ≡ Some y → x ≡ y)
    → xs ≡ ys
same_lists [] [] l same = refl
same_lists [] (y ∷ ys) l same = absurd (omega arith)
same_lists (x ∷ xs) [] l same = absurd (omega arith)
same_lists (x ∷ xs) (y ∷ ys) l same =
    let first : x ≡ y = same 0 x y refl refl in
    let rest : xs ≡ ys = same_lists xs ys (omega arith) (λ k. same (suc k)) in
    cc
