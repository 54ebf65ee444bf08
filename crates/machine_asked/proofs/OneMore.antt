-- What is kept of one script more.
use Rattle.std.proofs.Common.{◌≡◌, ℕ, zero, suc, ◌+◌, ◌<◌, List, [], ◌∷◌, ◌++◌, length, map, take, Some, None, sym, ◌∙◌, ap, arith, slice_get}
use Rattle.std.proofs.lemmas.List.{map_push, take_more}
use Rattle.std.proofs.lemmas.Option.{none-some, slice_get_within, get_or_from_slice_get}

-- one element more of a list
pub take_read : {X : Type 0} (xs : List X) (k : ℕ) (x : X) → Some x ≡ slice_get xs k → take (k + 1) xs ≡ take k xs ++ x ∷ []
take_read xs k x there =
    take_more xs k x (slice_get_within xs k x (sym there)) ∙ ap (λ y. take k xs ++ y ∷ []) (get_or_from_slice_get xs k x x (sym there))

-- an element within a list is there
pub none_past : {X : Type 0} (xs : List X) (k : ℕ) → k < length xs → None ≡ slice_get xs k → ⊥
none_past [] k below none = absurd (omega (arith, below))
none_past (x ∷ xs) zero below none = none-some x none
none_past (x ∷ xs) (suc k) below none = none_past xs k (omega (arith, below)) none

-- what is told of one element more
pub told_more : {X Y : Type 0} (f : X → Y) (xs : List X) (ys new : List Y) (k : ℕ) (x : X) (y : Y) → Some x ≡ slice_get xs k → y ≡ f x
    → new ≡ ys ++ y ∷ [] → ys ≡ map f (take k xs) → new ≡ map f (take (k + 1) xs)
told_more {X} {Y} f xs ys new k x y there is grown so_far =
    grown
    ∙ (ap (λ (zs : List Y). zs ++ y ∷ []) so_far
    ∙ (ap (λ (z : Y). map f (take k xs) ++ z ∷ []) is
    ∙ (sym (map_push f (take k xs) x)
    ∙ ap (map f) (sym (take_read xs k x there)))))
