-- Lists of what a function gives for the numbers below k.
use Rattle.std.proofs.Common.{◌≡◌, ℕ, ◌+◌, List, [], ◌∷◌, ◌++◌, map, ◌∙◌, sym, ap, zero-add}
use Rattle.std.specs.List.{range_with_len}
use Rattle.std.proofs.lemmas.List.FromFn.{map-range_with_len_more}

-- one more is put behind those before it
pub one_more : {X : Type 0} (f : ℕ → X) (old new : List X) (k : ℕ) (y : X) → old ≡ map f (range_with_len 0 k) → new ≡ old ++ y ∷ [] → y ≡ f k
    → new ≡ map f (range_with_len 0 (k + 1))
one_more f old new k y before put is =
    put
    ∙ (ap (λ v. v ++ y ∷ []) before
    ∙ (ap (λ z. map f (range_with_len 0 k) ++ z ∷ []) is
    ∙ sym (map-range_with_len_more f 0 k k (zero-add k))))
