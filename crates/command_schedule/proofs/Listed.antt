-- What is listed of all items.
use Rattle.std.proofs.Common.{◌≡◌, ℕ, ◌+◌, ◌≤◌, ◌++◌, List, [], ◌∷◌, length, map, take, refl, sym, ap, ◌∙◌, arith, append_assoc, append-nil}
use Rattle.std.specs.List.{flat_map, range_with_len}
use Rattle.std.proofs.lemmas.List.Concat.{flat_map-append}
use Rattle.std.proofs.lemmas.List.FromFn.{map-range_with_len_more}
use Rattle.lexer.specs.Joined.{joined_on}
use Rattle.std.proofs.lemmas.List.{take_all}
use Rattle.std.proofs.lemmas.List.Folds.{flat_map-map}

-- one map behind another
maps : {X Y Z : Type 0} (f : Y → Z) (of : X → Y) (xs : List X) → map (λ x. f (of x)) xs ≡ map f (map of xs)
maps f of [] = refl
maps f of (x ∷ xs) = ap (λ ys. f (of x) ∷ ys) (maps f of xs)

-- of each item by what it stands for
pub all_listed : {X Y Z : Type 0} (f : Y → List Z) (of : X → Y) (xs : List X) (i : ℕ) → length xs ≤ i
    → flat_map (λ x. f (of x)) (take i xs) ≡ flat_map f (map of xs)
all_listed {X} f of xs i all = ap (λ (ys : List X). flat_map (λ x. f (of x)) ys) (take_all i xs all) ∙ sym (flat_map-map f of xs)

-- of each item a number by what it stands for
pub all_mapped : {X Y Z : Type 0} (f : Y → Z) (of : X → Y) (xs : List X) (i : ℕ) → length xs ≤ i
    → map (λ x. f (of x)) (take i xs) ≡ map f (map of xs)
all_mapped {X} f of xs i all = ap (λ (ys : List X). map (λ x. f (of x)) ys) (take_all i xs all) ∙ maps f of xs

-- the words of n numbers, and then those of n
words_more : (f : ℕ → List (List ℕ)) (n : ℕ) → flat_map f (range_with_len 0 (n + 1)) ≡ flat_map f (range_with_len 0 n) ++ f n
words_more f n =
    sym (flat_map-map f (λ (k : ℕ). k) (range_with_len 0 (n + 1)))
    ∙ ap (flat_map f) (map-range_with_len_more (λ (k : ℕ). k) 0 n n (omega arith))
    ∙ flat_map-append f (map (λ (k : ℕ). k) (range_with_len 0 n)) (n ∷ [])
    ∙ ap (λ (xs : List (List ℕ)). flat_map f (map (λ (k : ℕ). k) (range_with_len 0 n)) ++ xs) (append-nil (f n))
    ∙ ap (λ (xs : List (List ℕ)). xs ++ f n) (flat_map-map f (λ (k : ℕ). k) (range_with_len 0 n))

-- a text that grows by the words of one number more
pub joined_more : (f : ℕ → List (List ℕ)) (n : ℕ) (old now after : List ℕ) → now ≡ old ++ joined_on (flat_map f (range_with_len 0 n))
    → after ≡ now ++ joined_on (f n) → after ≡ old ++ joined_on (flat_map f (range_with_len 0 (n + 1)))
joined_more f n old now after so_far is =
    is
    ∙ ap (λ (t : List ℕ). t ++ joined_on (f n)) so_far
    ∙ append_assoc old (joined_on (flat_map f (range_with_len 0 n))) (joined_on (f n))
    ∙ ap (λ (t : List ℕ). old ++ t) (sym (flat_map-append (λ word. 32 ∷ word) (flat_map f (range_with_len 0 n)) (f n)))
    ∙ ap (λ (ws : List (List ℕ)). old ++ joined_on ws) (sym (words_more f n))
