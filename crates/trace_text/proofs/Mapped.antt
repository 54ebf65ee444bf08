-- The images of a list, one after the other.
use Rattle.std.proofs.Common.{◌≡◌, ℕ, ◌+◌, ◌<◌, List, [], ◌∷◌, ◌++◌, length, get_or, take, map, sym, ◌∙◌, ap}
use Rattle.std.proofs.lemmas.List.{map_push, take_more}

-- one more image
pub mapped_more : {A B : Type 0} (f : A → B) (xs : List A) (k : ℕ) (d : A) (done : List B) (y : B) (new : List B) → k < length xs
    → y ≡ f (get_or xs k d) → done ≡ map f (take k xs) → new ≡ done ++ y ∷ [] → new ≡ map f (take (k + 1) xs)
mapped_more f xs k d done y new low is so_far grown =
    grown ∙ (ap (λ ys. ys ++ y ∷ []) so_far ∙ (ap (λ z. map f (take k xs) ++ z ∷ []) is
    ∙ (sym (map_push f (take k xs) (get_or xs k d)) ∙ ap (map f) (sym (take_more xs k d low)))))
