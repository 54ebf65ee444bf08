-- One row more.
use Rattle.std.proofs.Common.{Bor, ◌≡◌, ℕ, zero, suc, ◌+◌, ◌<◌, List, [], ◌∷◌, ◌++◌, length, map, take, Some, None, sym, ◌∙◌, ap, arith, slice_get}
use Rattle.std.proofs.lemmas.List.{map_push, take_more}
use Rattle.std.proofs.lemmas.Option.{none-some, slice_get_within, get_or_from_slice_get}

-- one element more of a list
pub take_read : {X : Type 0} (xs : List X) (k : ℕ) (x : X) → Some x ≡ slice_get xs k → take (k + 1) xs ≡ take k xs ++ x ∷ []
take_read xs k x there =
    take_more xs k x (slice_get_within xs k x (sym there)) ∙ ap (λ y. take k xs ++ y ∷ []) (get_or_from_slice_get xs k x x (sym there))

-- an element within a list is there
pub none_past : {X : Type 0} (xs : List X) (k : ℕ) → k < length xs → None ≡ slice_get xs k → ⊥
none_past [] k below none = absurd (omega (arith, below))
none_past (x ∷ xs) zero below none = none-some x none
none_past (x ∷ xs) (suc k) below none = none_past xs k (omega (arith, below)) none

-- one list more that is lent
pub lent_more : {X : Type 0} (xss : List (List X)) (rows new : List (Bor (List X))) (k : ℕ) (own : Bor (List X)) → Some own.now ≡ slice_get xss k
    → new ≡ rows ++ own ∷ []
    → map (λ (row : Bor (List X)). row.now) rows ≡ take k xss → map (λ (row : Bor (List X)). row.now) new ≡ take (k + 1) xss
lent_more {X} xss rows new k own there grown so_far =
    ap (map (λ (row : Bor (List X)). row.now)) grown
    ∙ (map_push (λ (row : Bor (List X)). row.now) rows own
    ∙ (ap (λ yss. yss ++ own.now ∷ []) so_far
    ∙ sym (take_read xss k own.now there)))
