-- Lists that are images of numbers, and what tests leave of lists.
use Rattle.std.proofs.Common.{◌≡◌, ⊎_elim, ℕ, zero, suc, ◌<◌, ◌≤◌, Bool, true, false, List, [], ◌∷◌, map, take, Some, refl}
use Rattle.std.proofs.Common.{sym, ◌∙◌, ap, arith, slice_get}
use Rattle.std.specs.Prelude.{count_by, filter}
use Rattle.std.specs.List.{range_with_len}
use Rattle.std.proofs.lemmas.Bool.{cases_lt, cond-true, cond-false}
use Rattle.std.proofs.lemmas.List.{get_or_past}
use Rattle.std.proofs.lemmas.List.FromFn.{length-map-range_with_len, get_or-map-range_with_len}
use Rattle.std.proofs.lemmas.List.Sums.{length-filter}
use Rattle.std.proofs.lemmas.Option.{same_Some, none-some, slice_get_within, slice_get-get_or, get_or_from_slice_get}
use Rattle.one_order.proofs.Counting.{count_cons, filter_at, nth}
use Rattle.report_check.specs.Facts.{rows_at}

-- the image of a number
pub image_at : {X : Type 0} (f : ℕ → X) (n k : ℕ) (y : X) → slice_get (map f (range_with_len 0 n)) k ≡ Some y → (k < n) × (f k ≡ y)
image_at f n k y h =
    let l : k < n = omega (arith, slice_get_within (map f (range_with_len 0 n)) k y h, length-map-range_with_len f 0 n) in
    (l, sym (get_or-map-range_with_len f 0 n k k y l (omega arith)) ∙ get_or_from_slice_get (map f (range_with_len 0 n)) k y y h)

pub image_of : {X : Type 0} (f : ℕ → X) (n k : ℕ) → k < n → slice_get (map f (range_with_len 0 n)) k ≡ Some (f k)
image_of f n k l =
    slice_get-get_or (map f (range_with_len 0 n)) k (f k) (omega (arith, length-map-range_with_len f 0 n))
    ∙ ap (λ x. Some x) (get_or-map-range_with_len f 0 n k k (f k) l (omega arith))

-- the rows of a number
pub rows_of : {X : Type 0} (f : ℕ → List X) (n b : ℕ) → b < n → rows_at (map f (range_with_len 0 n)) b ≡ f b
rows_of f n b l = get_or-map-range_with_len f 0 n b b [] l (omega arith)

rows_past : {X : Type 0} (f : ℕ → List X) (n b : ℕ) → n ≤ b → rows_at (map f (range_with_len 0 n)) b ≡ []
rows_past f n b l = get_or_past (map f (range_with_len 0 n)) b [] (omega (arith, length-map-range_with_len f 0 n))

pub row_in : {X : Type 0} (f : ℕ → List X) (n b k : ℕ) (x : X) → slice_get (rows_at (map f (range_with_len 0 n)) b) k ≡ Some x
    → (b < n) × (slice_get (f b) k ≡ Some x)
row_in {X} f n b k x h = ⊎_elim
    (λ (l : b < n). (l, ap (λ (xs : List X). slice_get xs k) (sym (rows_of f n b l)) ∙ h))
    (λ (g : n ≤ b). absurd (none-some x (ap (λ (xs : List X). slice_get xs k) (sym (rows_past f n b g)) ∙ h)))
    (cases_lt b n)

pub row_put : {X : Type 0} (f : ℕ → List X) (n b k : ℕ) (x : X) → b < n → slice_get (f b) k ≡ Some x
    → slice_get (rows_at (map f (range_with_len 0 n)) b) k ≡ Some x
row_put {X} f n b k x l h = ap (λ (xs : List X). slice_get xs k) (rows_of f n b l) ∙ h

-- an element of an image is of an element
pub mapped_at : {X Y : Type 0} (f : X → Y) (xs : List X) (k : ℕ) (y : Y) → slice_get (map f xs) k ≡ Some y
    → (x : X) × (slice_get xs k ≡ Some x) × (f x ≡ y)
mapped_at f [] k y there = absurd (cc)
mapped_at f (x ∷ xs) zero y there = (x, refl, same_Some (f x) y there)
mapped_at f (x ∷ xs) (suc k) y there = mapped_at f xs k y there

pub mapped_of : {X Y : Type 0} (f : X → Y) (xs : List X) (k : ℕ) (x : X) → slice_get xs k ≡ Some x → slice_get (map f xs) k ≡ Some (f x)
mapped_of f [] k x there = absurd (cc)
mapped_of f (y ∷ xs) zero x there = ap (λ z. Some (f z)) (same_Some y x there)
mapped_of f (y ∷ xs) (suc k) x there = mapped_of f xs k x there

-- what a test leaves at a place stood in the list, behind so many that pass
pub record Stood {X : Type 0} (p : X → Bool) (xs : List X) (k : ℕ) (y : X) : Type 0 where
  pub at : ℕ
  pub there : slice_get xs at ≡ Some y
  pub passes : p y ≡ true
  pub counts : count_by p (take at xs) ≡ k

pub stood : {X : Type 0} (p : X → Bool) (xs : List X) (k : ℕ) (y : X) → slice_get (filter p xs) k ≡ Some y → Stood p xs k y
stood {X} p xs k y h =
    let l : k < count_by p xs = omega (arith, slice_get_within (filter p xs) k y h, length-filter p xs) in
    let n = nth p xs k l in
    let e : slice_get (filter p xs) k ≡ Some n.element = ap (slice_get (filter p xs)) (sym n.counts) ∙ filter_at p xs n.k n.element n.there n.passes in
    let same : n.element ≡ y = same_Some n.element y (sym e ∙ h) in
    record {
      at = n.k;
      there = n.there ∙ ap (λ (z : X). Some z) same;
      passes = ap p (sym same) ∙ n.passes;
      counts = n.counts;
    }

-- counting in an image
pub count_map : {X Y : Type 0} (f : X → Y) (p : Y → Bool) (xs : List X) → count_by p (map f xs) ≡ count_by (λ x. p (f x)) xs
count_map f p [] = refl
count_map f p (x ∷ xs) = omega (arith, count_cons p (f x) (map f xs), count_cons (λ z. p (f z)) x xs, count_map f p xs)

-- a test of an image
filter_on : {X Y : Type 0} (f : X → Y) (p : Y → Bool) (x : X) (xs : List X) (b : Bool) → p (f x) ≡ b
    → filter p (map f xs) ≡ map f (filter (λ z. p (f z)) xs) → filter p (map f (x ∷ xs)) ≡ map f (filter (λ z. p (f z)) (x ∷ xs))
filter_on {X} {Y} f p x xs true h rest =
    cond-true (p (f x)) (f x ∷ filter p (map f xs)) (filter p (map f xs)) h
    ∙ (ap (λ (ys : List Y). f x ∷ ys) rest
    ∙ sym (ap (map f) (cond-true (p (f x)) (x ∷ filter (λ z. p (f z)) xs) (filter (λ z. p (f z)) xs) h)))
filter_on {X} {Y} f p x xs false h rest =
    cond-false (p (f x)) (f x ∷ filter p (map f xs)) (filter p (map f xs)) h
    ∙ (rest
    ∙ sym (ap (map f) (cond-false (p (f x)) (x ∷ filter (λ z. p (f z)) xs) (filter (λ z. p (f z)) xs) h)))

pub filter_map : {X Y : Type 0} (f : X → Y) (p : Y → Bool) (xs : List X) → filter p (map f xs) ≡ map f (filter (λ x. p (f x)) xs)
filter_map f p [] = refl
filter_map f p (x ∷ xs) = filter_on f p x xs (p (f x)) refl (filter_map f p xs)

-- one image after another
pub map_thrice : {W X Y Z : Type 0} (f : W → X) (g : X → Y) (h : Y → Z) (k : W → Z) → ((w : W) → h (g (f w)) ≡ k w) → (ws : List W)
    → map h (map g (map f ws)) ≡ map k ws
map_thrice f g h k same [] = refl
map_thrice {W} {X} {Y} {Z} f g h k same (w ∷ ws) =
    ap (λ (zs : List Z). h (g (f w)) ∷ zs) (map_thrice f g h k same ws) ∙ ap (λ z. z ∷ map k ws) (same w)
