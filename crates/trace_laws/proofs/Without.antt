-- A list without some of its elements.
use Rattle.std.proofs.Common.{◌≡◌, ap, inl, inr, ⊎_elim, ℕ, zero, suc, ◌<◌, List, [], ◌∷◌, ◌++◌, Some, refl, sym, subst, arith, slice_get}
use Rattle.trace_laws.specs.Unanswered.{IsWithout}

-- where it stands in the longer list
abbrev pub There : {A : Type 0} → List A → A → Type 0
There xs x = (i : ℕ) × (slice_get xs i ≡ Some x)

-- two elements, one before the other
abbrev pub Before : {A : Type 0} → List A → A → A → Type 0
Before xs x y = (i : ℕ) × (j : ℕ) × (i < j) × (slice_get xs i ≡ Some x) × (slice_get xs j ≡ Some y)

there_later : {A : Type 0} (z : A) (xs : List A) (x : A) → There xs x → There (z ∷ xs) x
there_later z xs x h = (suc h.0, h.1)

before_later : {A : Type 0} (z : A) (xs : List A) (x y : A) → Before xs x y → Before (z ∷ xs) x y
before_later z xs x y h = (suc h.0, suc h.1, (let l = h.2 in omega arith), h.3, h.4)

-- what the shorter list has, the longer one has
pub forth : {A : Type 0} (P : A → Type 0) (long short : List A) → IsWithout P long short → (i : ℕ) (x : A)
    → slice_get short i ≡ Some x → There long x
forth P [] short without i x h = absurd
    (let none : slice_get [] i ≡ Some x = subst (λ (s : List _). slice_get s i ≡ Some x) without h in cc)
forth {A} P (z ∷ long) short without i x h = ⊎_elim {C = There (z ∷ long) x}
    (λ (r : (rest : List A) × (short ≡ z ∷ rest) × IsWithout P long rest).
    kept r.0 (λ j g. forth P long r.0 r.2 j x g) i (subst (λ (s : List A). slice_get s i ≡ Some x) r.1 h))
    (λ (r : P z × IsWithout P long short). there_later z long x (forth P long short r.1 i x h))
    without
  where
    kept : (rest : List A) → ((j : ℕ) → slice_get rest j ≡ Some x → There long x) → (j : ℕ)
        → slice_get (z ∷ rest) j ≡ Some x → There (z ∷ long) x
    kept rest later zero g = (0, g)
    kept rest later (suc j) g = there_later z long x (later j g)

-- in the same order
pub forth_both : {A : Type 0} (P : A → Type 0) (long short : List A) → IsWithout P long short → (i j : ℕ) (x y : A)
    → i < j → slice_get short i ≡ Some x → slice_get short j ≡ Some y → Before long x y
forth_both P [] short without i j x y l h g = absurd
    (let none : slice_get [] i ≡ Some x = subst (λ (s : List _). slice_get s i ≡ Some x) without h in cc)
forth_both {A} P (z ∷ long) short without i j x y l h g = ⊎_elim {C = Before (z ∷ long) x y}
    (λ (r : (rest : List A) × (short ≡ z ∷ rest) × IsWithout P long rest).
    kept r.0 (λ n b. forth P long r.0 r.2 n y b)
    (λ m n low a b. forth_both P long r.0 r.2 m n x y low a b) i j l (subst (λ (s : List A). slice_get s i ≡ Some x) r.1 h)
    (subst (λ (s : List A). slice_get s j ≡ Some y) r.1 g))
    (λ (r : P z × IsWithout P long short). before_later z long x y (forth_both P long short r.1 i j x y l h g))
    without
  where
    kept : (rest : List A) → ((n : ℕ) → slice_get rest n ≡ Some y → There long y)
        → ((m n : ℕ) → m < n → slice_get rest m ≡ Some x → slice_get rest n ≡ Some y → Before long x y)
        → (m n : ℕ) → m < n → slice_get (z ∷ rest) m ≡ Some x → slice_get (z ∷ rest) n ≡ Some y
        → Before (z ∷ long) x y
    kept rest one both m zero low a b = absurd (omega arith)
    kept rest one both zero (suc n) low a b = let there = one n b in (0, suc there.0, omega arith, a, there.1)
    kept rest one both (suc m) (suc n) low a b = before_later z long x y (both m n (omega arith) a b)

-- what the longer list has, and is no such element, the shorter one has
pub back : {A : Type 0} (P : A → Type 0) (long short : List A) → IsWithout P long short → (i : ℕ) (x : A)
    → slice_get long i ≡ Some x → (P x → ⊥) → There short x
back P [] short without i x h other = absurd (cc (h))
back {A} P (z ∷ long) short without i x h other = ⊎_elim {C = There short x}
    (λ (r : (rest : List A) × (short ≡ z ∷ rest) × IsWithout P long rest).
    subst (λ (s : List A). There s x) (sym r.1) (kept r.0 (λ j g. back P long r.0 r.2 j x g other) i h))
    (λ (r : P z × IsWithout P long short). gone r.0 (λ j g. back P long short r.1 j x g other) i h)
    without
  where
    kept : (rest : List A) → ((j : ℕ) → slice_get long j ≡ Some x → There rest x) → (j : ℕ)
        → slice_get (z ∷ long) j ≡ Some x → There (z ∷ rest) x
    kept rest later zero g = (0, g)
    kept rest later (suc j) g = there_later z rest x (later j g)

    gone : P z → ((j : ℕ) → slice_get long j ≡ Some x → There short x) → (j : ℕ)
        → slice_get (z ∷ long) j ≡ Some x → There short x
    gone such later zero g = let e : z ≡ x = cc in absurd (other (subst P e such))
    gone such later (suc j) g = later j g

-- one element more at the end of both
pub without_kept : {A : Type 0} (P : A → Type 0) (long short : List A) (x : A) → IsWithout P long short
    → IsWithout P (long ++ x ∷ []) (short ++ x ∷ [])
without_kept P [] short x without = inl ([], ap (λ (s : List _). s ++ x ∷ []) without, refl)
without_kept {A} P (z ∷ long) short x without = ⊎_elim {C = IsWithout P (z ∷ long ++ x ∷ []) (short ++ x ∷ [])}
    (λ (r : (rest : List A) × (short ≡ z ∷ rest) × IsWithout P long rest).
    inl (r.0 ++ x ∷ [], ap (λ (s : List A). s ++ x ∷ []) r.1, without_kept P long r.0 x r.2))
    (λ (r : P z × IsWithout P long short). inr (r.0, without_kept P long short x r.1))
    without

-- one such element more at the end of the longer one
pub without_left : {A : Type 0} (P : A → Type 0) (long short : List A) (x : A) → P x → IsWithout P long short
    → IsWithout P (long ++ x ∷ []) short
without_left P [] short x such without = inr (such, without)
without_left {A} P (z ∷ long) short x such without = ⊎_elim {C = IsWithout P (z ∷ long ++ x ∷ []) short}
    (λ (r : (rest : List A) × (short ≡ z ∷ rest) × IsWithout P long rest).
    inl (r.0, r.1, without_left P long r.0 x such r.2))
    (λ (r : P z × IsWithout P long short). inr (r.0, without_left P long short x such r.1))
    without
