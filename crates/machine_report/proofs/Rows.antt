-- A row of lists, each mapped.
use Rattle.std.proofs.Common.{◌≡◌, ℕ, zero, suc, List, [], ◌∷◌, map, Option, Some, None, refl, sym, ◌∙◌, ap, slice_get, slice_index_or}
use Rattle.std.specs.Prelude.{option_map}
use Rattle.std.proofs.lemmas.Option.{none-some, slice_get-map}

-- a list of lists, each mapped, at a place
pub list_told : {X Y : Type 0} (f : X → Y) (xss : List (List X)) (b : ℕ) → slice_index_or (map (map f) xss) b [] ≡ map f (slice_index_or xss b [])
list_told f [] b = refl
list_told f (xs ∷ xss) zero = refl
list_told f (xs ∷ xss) (suc b) = list_told f xss b

-- the row that is read of it
pub row_told : {X Y : Type 0} (f : X → Y) (xss : List (List X)) (b k : ℕ) (xs : List X) (o : Option X) (r : Option Y) → r ≡ option_map f o
    → o ≡ slice_get xs k → xs ≡ slice_index_or xss b [] → r ≡ slice_get (slice_index_or (map (map f) xss) b []) k
row_told {X} {Y} f xss b k xs o r told read is =
    told ∙ ap (option_map f) (read ∙ ap (λ (ys : List X). slice_get ys k) is)
    ∙ sym (slice_get-map f (slice_index_or xss b []) k)
    ∙ ap (λ (ys : List Y). slice_get ys k) (sym (list_told f xss b))

-- no list is there
pub none_there : {X : Type 0} (xss : List (List X)) (b : ℕ) → None ≡ slice_get xss b → [] ≡ slice_index_or xss b []
none_there [] b is = refl
none_there (ys ∷ xss) zero is = absurd (none-some ys is)
none_there (ys ∷ xss) (suc b) is = none_there xss b is
