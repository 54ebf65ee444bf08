-- A list that was lent as a slice, which came back in its full length.
use Rattle.std.proofs.Common.{◌≡◌, ℕ, zero, suc, ◌≤◌, List, [], ◌∷◌, ◌++◌, length, take, drop, refl, ap, ◌∙◌, arith}
use Rattle.std.proofs.lemmas.List.{append-nil}

take_all : {X : Type 0} (xs : List X) (n : ℕ) → length xs ≤ n → take n xs ≡ xs
take_all [] zero h = refl
take_all [] (suc n) h = refl
take_all (x ∷ xs) zero h = absurd (omega (arith, h))
take_all (x ∷ xs) (suc n) h = ap (λ l. x ∷ l) (take_all xs n (omega (arith, h)))

drop_all : {X : Type 0} (xs : List X) (n : ℕ) → length xs ≤ n → drop n xs ≡ []
drop_all [] zero h = refl
drop_all [] (suc n) h = refl
drop_all (x ∷ xs) zero h = absurd (omega (arith, h))
drop_all (x ∷ xs) (suc n) h = drop_all xs n (omega (arith, h))

pub lent : {X : Type 0} (n : ℕ) (xs ys : List X) → length xs ≡ n → length ys ≡ length xs → take n (ys ++ drop (length ys) xs) ≡ ys
lent n xs ys size same =
    ap (λ l. take n (ys ++ l)) (drop_all xs (length ys) (omega (arith, same)))
    ∙ (ap (take n) (append-nil ys) ∙ take_all ys n (omega (arith, size, same)))
