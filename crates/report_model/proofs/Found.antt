-- The first item of a number, by the place of the number in a list, and by a map of the numbers.
use Rattle.std.proofs.Common.{◌≡◌, ◌≢◌, ℕ, ◌+◌, ◌<◌, ◌==◌, Bool, true, false, cond, drop, Option, Some, inl, inr, if◌then◌else◌, List, [], ◌∷◌, length, map, refl, sym, ap, ◌∙◌, arith}
use Rattle.std.proofs.Common.{slice_get}
use Rattle.std.specs.Prelude.{not}
use Rattle.std.specs.List.{find, position_or_len}
use Rattle.std.specs.BTreeMap.{is_at}
use Rattle.std.specs.Ordering.{nat_cmp}
use Rattle.std.proofs.lemmas.Bool.{cases_eq, lt-ltb}
use Rattle.std.proofs.lemmas.Bool.Decides.{nat_tests}
use Rattle.std.proofs.lemmas.List.Folds.{find_at}
use Rattle.model_text.specs.Traces.{place_below, place_in}
use Rattle.report_model.proofs.Scripted.{drop_here}

place_mapped : {X : Type 0} (f : X → ℕ) (xs : List X) (n : ℕ) → place_in (map f xs) n ≡ position_or_len (λ (x : X). f x == n) xs
place_mapped f [] n = refl
place_mapped f (x ∷ xs) n = ap (λ (k : ℕ). cond (not (f x == n)) (1 + k) 0) (place_mapped f xs n)

pub found_at : {X : Type 0} (f : X → ℕ) (xs : List X) (limit n : ℕ) → n < limit
    → slice_get xs (place_below (map f xs) limit n) ≡ find (λ (x : X). f x == n) xs
found_at {X} f xs limit n low =
    ap (slice_get xs) (ap (λ (b : Bool). if b then place_in (map f xs) n else length (map f xs)) (lt-ltb n limit low) ∙ place_mapped f xs n)
    ∙ sym (find_at (λ (x : X). f x == n) xs)

pub key_here : (q p : ℕ) → q ≡ p → is_at (nat_cmp q) p ≡ true
key_here q p same = grind (arith, nat_tests)

pub key_elsewhere : (q p : ℕ) → q ≢ p → is_at (nat_cmp q) p ≡ false
key_elsewhere q p other = grind (arith, nat_tests)

at_front : {X : Type 0} (f : X → ℕ) (x : X) (xs : List X) (n : ℕ) (b : Bool) → (f x == n) ≡ b → cond b (Some x) (find (λ (y : X). f y == n) xs) ≡ find (λ (y : X). f y == n) (x ∷ xs)
at_front f x xs n b is = ap (λ (t : Bool). cond t (Some x) (find (λ y. f y == n) xs)) (sym is)

-- one item more in front
pub found_more : {X : Type 0} (f : X → ℕ) (xs : List X) (k : ℕ) (x : X) (old new : ℕ → Option X) → slice_get xs k ≡ Some x
    → ((q : ℕ) → new q ≡ cond (is_at (nat_cmp (f x)) q) (Some x) (old q))
    → ((n : ℕ) → old n ≡ find (λ (y : X). f y == n) (drop (k + 1) xs))
    → (n : ℕ) → new n ≡ find (λ (y : X). f y == n) (drop k xs)
found_more {X} f xs k x old new there changed so_far n =
    let front : find (λ (y : X). f y == n) (x ∷ drop (k + 1) xs) ≡ find (λ (y : X). f y == n) (drop k xs) =
    ap (find (λ (y : X). f y == n)) (sym (drop_here xs k x there)) in
    elim (cases_eq (f x) n) [
      | inl same ↦ changed n ∙ ap (λ (b : Bool). cond b (Some x) (old n)) (key_here (f x) n same) ∙ at_front f x (drop (k + 1) xs) n true (let is : (f x == n) ≡ true = grind arith in is) ∙ front
      | inr other ↦ changed n ∙ ap (λ (b : Bool). cond b (Some x) (old n)) (key_elsewhere (f x) n other) ∙ so_far n
          ∙ at_front f x (drop (k + 1) xs) n false (let is : (f x == n) ≡ false = grind arith in is) ∙ front
    ]
