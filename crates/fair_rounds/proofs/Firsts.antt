-- Lists of which the first elements are changed, one after the other.
use Rattle.std.proofs.Common.{◌≡◌, ℕ, zero, suc, ◌+◌, ◌<◌, List, [], ◌∷◌, ◌==◌, length, None, slice_get, slice_set, slice_index, slice_index_or, refl, ◌∙◌, ap, arith}
use Rattle.std.specs.Prelude.{if◌then◌else◌}
use Rattle.one_order.specs.Observed.{list_at}
use Rattle.core_laws.specs.Machine.{Core}
use Rattle.fair_rounds.specs.Guard.{with_first, issue_count, tag_holder, since_of, row_since}

-- a list that isn't there has no items
pub none_listed : {A : Type 0} (xss : List (List A)) (p : ℕ) → None ≡ slice_get xss p → 0 ≡ length (list_at xss p)
none_listed [] p none = refl
none_listed (xs ∷ xss) zero none = absurd (cc)
none_listed (xs ∷ xss) (suc p) none = none_listed xss p none

module _ {A : Type 0} (f : ℕ → A → A) (d : A) where
  -- the next element isn't changed yet
  pub next_is : (n a : ℕ) (xs : List A) → slice_index_or (with_first n f a xs) n d ≡ slice_index_or xs n d
  next_is zero a xs = refl
  next_is (suc n) a [] = refl
  next_is (suc n) a (x ∷ xs) = next_is n (a + 1) xs

  changed_more : (n a : ℕ) (xs : List A) → slice_set (with_first n f a xs) n (f (a + n) (slice_index_or xs n d)) ≡ with_first (suc n) f a xs
  changed_more zero a [] = refl
  changed_more zero a (x ∷ xs) = let e : a + 0 ≡ a = omega arith in ap (λ (k : ℕ). f k x ∷ xs) e
  changed_more (suc n) a [] = refl
  changed_more (suc n) a (x ∷ xs) =
      let e : a + suc n ≡ a + 1 + n = omega arith in
      ap (λ (ys : List A). f a x ∷ ys)
      (ap (λ (k : ℕ). slice_set (with_first n f (a + 1) xs) n (f k (slice_index_or xs n d))) e ∙ changed_more n (a + 1) xs)

  -- with it changed, one more is
  pub first_more : (n : ℕ) (xs : List A) (y : A) → y ≡ f n (slice_index_or (with_first n f 0 xs) n d)
      → slice_set (with_first n f 0 xs) n y ≡ with_first (n + 1) f 0 xs
  first_more n xs y is =
      let e : n ≡ 0 + n = omega arith in
      let z : suc n ≡ n + 1 = omega arith in
      ap (slice_set (with_first n f 0 xs) n) (is ∙ (ap (f n) (next_is n 0 xs) ∙ ap (λ (k : ℕ). f k (slice_index_or xs n d)) e))
      ∙ (changed_more n 0 xs ∙ ap (λ (k : ℕ). with_first k f 0 xs) z)

  pub same_length : (n a : ℕ) (xs : List A) → length (with_first n f a xs) ≡ length xs
  same_length zero a xs = refl
  same_length (suc n) a [] = refl
  same_length (suc n) a (x ∷ xs) = ap suc (same_length n (a + 1) xs)

  changed_from : (n a p : ℕ) (xs : List A) → p < n → p < length xs → slice_index_or (with_first n f a xs) p d ≡ f (a + p) (slice_index_or xs p d)
  changed_from zero a p xs low within = absurd (omega (arith, low))
  changed_from (suc n) a p [] low within = absurd (omega (arith, within))
  changed_from (suc n) a zero (x ∷ xs) low within = let e : a ≡ a + 0 = omega arith in ap (λ (k : ℕ). f k x) e
  changed_from (suc n) a (suc p) (x ∷ xs) low within =
      let e : a + 1 + p ≡ a + suc p = omega arith in
      changed_from n (a + 1) p xs (omega (arith, low)) (omega (arith, within)) ∙ ap (λ (k : ℕ). f k (slice_index_or xs p d)) e

  pub changed_at : (n p : ℕ) (xs : List A) → p < n → p < length xs → slice_index_or (with_first n f 0 xs) p d ≡ f p (slice_index_or xs p d)
  changed_at n p xs low within =
      let e : 0 + p ≡ p = omega arith in changed_from n 0 p xs low within ∙ ap (λ (k : ℕ). f k (slice_index_or xs p d)) e

-- the row of one processor more
pub row_more : (c : Core) (before : List ℕ) (round p count : ℕ) (now : List ℕ) (row old : List ℕ) → count ≡ issue_count c p
    → now ≡ with_first p (λ q n. issue_count c q) 0 before → row ≡ old
    → (if count == slice_index now p then row
    else with_first 16 (λ t since. since_of (tag_holder c p t) (slice_index now p) round since) 0 row) ≡ row_since c before round p old
row_more c before round p count now row old count_is now_is row_is =
    ap (λ (n : ℕ). if n == slice_index now p then row
    else with_first 16 (λ t since. since_of (tag_holder c p t) (slice_index now p) round since) 0 row) count_is
    ∙ (ap (λ (k : ℕ). if issue_count c p == k then row else with_first 16 (λ t since. since_of (tag_holder c p t) k round since) 0 row)
    (ap (λ (xs : List ℕ). slice_index xs p) now_is ∙ next_is (λ q n. issue_count c q) 0 p 0 before)
    ∙ ap (row_since c before round p) row_is)
