-- Values that a loop puts at the front of a buffer.
use Rattle.std.proofs.Common.{◌≡◌, ℕ, zero, suc, ◌+◌, ◌<◌, List, [], ◌∷◌, ◌++◌, length, take, drop, set, map, slice_get, slice_index_or, Some}
use Rattle.std.proofs.Common.{refl, ◌∙◌, ap, subst, arith}
use Rattle.std.proofs.lemmas.List.{length-set}

-- one more of some values over a buffer
pub value_more : {X : Type 0} (xs out : List X) (i : ℕ) (x : X) → slice_get xs i ≡ Some x → i < length out
    → set (take i xs ++ drop i out) i x ≡ take (suc i) xs ++ drop (suc i) out
value_more [] out i x h low = absurd (cc)
value_more (y ∷ xs) [] i x h low = absurd (omega (arith, low))
value_more (y ∷ xs) (z ∷ out) zero x h low = cc
value_more {X} (y ∷ xs) (z ∷ out) (suc i) x h low = ap (λ (zs : List X). y ∷ zs) (value_more xs out i x h (omega (arith, low)))

-- a buffer into which one more is written
pub puts_more : {X : Type 0} (xs out now : List X) (i : ℕ) (x : X) → slice_get xs i ≡ Some x → length now ≡ length out
    → i < length now → now ≡ take i xs ++ drop i out
    → (length (set now i x) ≡ length out) × (set now i x ≡ take (i + 1) xs ++ drop (i + 1) out)
puts_more {X} xs out now i x h size low is = (
  length-set now i x ∙ size,
  ap (λ (zs : List X). set zs i x) is
      ∙ subst (λ (n : ℕ). set (take i xs ++ drop i out) i x ≡ take n xs ++ drop n out)
      (let next : suc i ≡ i + 1 = omega arith in next)
      (value_more xs out i x h (omega (arith, size, low))),
)

-- what a function makes of the value at a place
pub made_at : {A B : Type 0} (f : A → B) (xs : List A) (i : ℕ) (else : A) → i < length xs
    → slice_get (map f xs) i ≡ Some (f (slice_index_or xs i else))
made_at f [] i else h = absurd (omega (arith, h))
made_at f (x ∷ xs) zero else h = refl
made_at f (x ∷ xs) (suc i) else h = made_at f xs i else (omega (arith, h))
