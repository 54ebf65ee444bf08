-- Lists of numbers, one of which grows.
use Rattle.std.proofs.Common.{◌≡◌, ℕ, ◌+◌, ◌<◌, List, [], ◌∷◌, ◌++◌, length, get_or, sym, ◌∙◌, ap, replicate}
use Rattle.std.specs.Prelude.{slice_set, Vec}
use Rattle.std.proofs.lemmas.List.{map-set, get_or-map, map_push, replicate_more}
use Rattle.model_text.specs.InsideRows.{row_lists}

-- one number more in one list
pub pushed : {A : Type 0} (items : List (Vec ℕ A)) (p : ℕ) (old new : Vec ℕ A) (number : ℕ) → p < length items → old ≡ get_or items p old →
    new.items ≡ old.items ++ number ∷ [] → row_lists (slice_set items p new) ≡ slice_set (row_lists items) p (get_or (row_lists items) p [] ++ number ∷ [])
pushed items p old new number low is grown =
    map-set (λ v. v.items) items p new
    ∙ ap (slice_set (row_lists items) p) (grown ∙ ap (λ ls. ls ++ number ∷ []) (sym (get_or-map (λ v. v.items) items p old [] low ∙ ap (λ v. v.items) (sym is))))

-- one more empty list
pub one_more_empty : {A : Type 0} (items new : List (Vec ℕ A)) (n : ℕ) (v : Vec ℕ A) → new ≡ items ++ v ∷ [] → v.items ≡ [] →
    row_lists items ≡ replicate n [] → row_lists new ≡ replicate (n + 1) []
one_more_empty items new n v grown empty so_far =
    ap row_lists grown ∙ map_push (λ v. v.items) items v ∙ ap (λ ls. ls ++ v.items ∷ []) so_far
    ∙ ap (λ l. replicate n [] ++ l ∷ []) empty ∙ replicate_more n []

-- the list at a place
pub numbers_there : {A : Type 0} (items : List (Vec ℕ A)) (p : ℕ) (v : Vec ℕ A) → p < length items → v ≡ get_or items p v →
    get_or (row_lists items) p [] ≡ v.items
numbers_there items p v low is = get_or-map (λ v. v.items) items p v [] low ∙ ap (λ v. v.items) (sym is)
