-- Rows of lists, each mapped.
use Rattle.std.proofs.Common.{◌≡◌, ℕ, zero, suc, ◌+◌, cond, Bool, List, [], ◌∷◌, ◌++◌, length, map, take, flat_map, Some, slice_get, refl, sym, ap, ◌∙◌}
use Rattle.std.proofs.Common.{length-append}
use Rattle.std.specs.Prelude.{count_by}
use Rattle.std.proofs.lemmas.List.{length-map, map-append}
use Rattle.std.proofs.lemmas.List.Sums.{sum_by-cons}
use Rattle.std.proofs.lemmas.Option.{same_Some}
use Rattle.one_order.specs.Observed.{list_at, total}
use Rattle.report_check.specs.Facts.{rows_at}

-- a row is of an element
pub element_of : {X Y : Type 0} (f : X → Y) (xs : List X) (k : ℕ) (y : Y) → slice_get (map f xs) k ≡ Some y → (x : X) × (slice_get xs k ≡ Some x) × (f x ≡ y)
element_of f [] k y there = cc
element_of f (x ∷ xs) zero y there = (x, refl, same_Some (f x) y there)
element_of f (x ∷ xs) (suc k) y there = element_of f xs k y there

pub row_of : {X Y : Type 0} (f : X → Y) (xs : List X) (k : ℕ) (x : X) → slice_get xs k ≡ Some x → slice_get (map f xs) k ≡ Some (f x)
row_of f [] k x there = cc
row_of f (y ∷ xs) zero x there = ap (λ z. Some (f z)) (same_Some y x there)
row_of f (y ∷ xs) (suc k) x there = row_of f xs k x there

pub rows_are : {X Y : Type 0} (f : X → Y) (xss : List (List X)) (b : ℕ) → rows_at (map (map f) xss) b ≡ map f (list_at xss b)
rows_are f [] b = refl
rows_are f (xs ∷ xss) zero = refl
rows_are f (xs ∷ xss) (suc b) = rows_are f xss b

pub element_at : {X Y : Type 0} (f : X → Y) (xss : List (List X)) (b k : ℕ) (y : Y) → slice_get (rows_at (map (map f) xss) b) k ≡ Some y
    → (x : X) × (slice_get (list_at xss b) k ≡ Some x) × (f x ≡ y)
element_at {X} {Y} f xss b k y there = element_of f (list_at xss b) k y (ap (λ (ys : List Y). slice_get ys k) (sym (rows_are f xss b)) ∙ there)

pub row_at : {X Y : Type 0} (f : X → Y) (xss : List (List X)) (b k : ℕ) (x : X) → slice_get (list_at xss b) k ≡ Some x
    → slice_get (rows_at (map (map f) xss) b) k ≡ Some (f x)
row_at {X} {Y} f xss b k x there = ap (λ (ys : List Y). slice_get ys k) (rows_are f xss b) ∙ row_of f (list_at xss b) k x there

pub row_count : {X Y : Type 0} (f : X → Y) (xss : List (List X)) (b : ℕ) → length (rows_at (map (map f) xss) b) ≡ length (list_at xss b)
row_count f xss b = ap length (rows_are f xss b) ∙ length-map (list_at xss b) f

-- all rows together
pub all_rows : {X Y : Type 0} (f : X → Y) (xss : List (List X)) → flat_map (λ ys. ys) (map (map f) xss) ≡ map f (flat_map (λ xs. xs) xss)
all_rows f [] = refl
all_rows {X} {Y} f (xs ∷ xss) = ap (λ (ys : List Y). map f xs ++ ys) (all_rows f xss) ∙ sym (map-append f xs (flat_map (λ ys. ys) xss))

pub all_count : {X : Type 0} (xss : List (List X)) → length (flat_map (λ xs. xs) xss) ≡ total xss
all_count [] = refl
all_count (xs ∷ xss) = length-append xs (flat_map (λ ys. ys) xss) ∙ ap (λ n. length xs + n) (all_count xss)

pub map_twice : {X Y Z : Type 0} (f : X → Y) (g : Y → Z) (h : X → Z) → ((x : X) → g (f x) ≡ h x) → (xs : List X) → map g (map f xs) ≡ map h xs
map_twice f g h same [] = refl
map_twice {X} {Y} {Z} f g h same (x ∷ xs) = ap (λ (zs : List Z). g (f x) ∷ zs) (map_twice f g h same xs) ∙ ap (λ z. z ∷ map h xs) (same x)

-- the first rows that pass, counted
abbrev one_if : Bool → ℕ
one_if b = cond b 1 0

pub count_rows : {X Y : Type 0} (f : X → Y) (test : Y → Bool) (k : ℕ) (xs : List X) → count_by test (take k (map f xs)) ≡ count_by (λ x. test (f x)) (take k xs)
count_rows f test zero [] = refl
count_rows f test (suc k) [] = refl
count_rows f test zero (x ∷ xs) = refl
count_rows f test (suc k) (x ∷ xs) =
    sum_by-cons (λ y. one_if (test y)) (f x) (take k (map f xs))
    ∙ ap (λ n. one_if (test (f x)) + n) (count_rows f test k xs)
    ∙ sym (sum_by-cons (λ y. one_if (test (f y))) x (take k xs))
