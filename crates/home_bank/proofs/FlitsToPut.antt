-- The flits that are left of a packet.
use Rattle.std.proofs.Common.{◌≡◌, ℕ, zero, suc, ◌+◌, ◌<◌, ◌≤◌, ◌∙◌, true, false, List, [], ◌∷◌, length, drop, inl, inr, refl, sym, arith, add-one}
use Rattle.std.specs.Prelude.{◌==◌}
use Rattle.std.proofs.lemmas.Bool.Decides.{eqb_tells}
use Rattle.flit_buffer.specs.Channel.{rest}
use Rattle.home_bank.specs.BankTable.{is_nil}

nil_at : (n : ℕ) (xs : List ℕ) → n ≡ length xs → is_nil (drop n xs) ≡ true
nil_at zero [] h = refl
nil_at zero (x ∷ xs) h = absurd (omega arith)
nil_at (suc n) [] h = refl
nil_at (suc n) (x ∷ xs) h = nil_at n xs (omega arith)

some_below : (n : ℕ) (xs : List ℕ) → n < length xs → is_nil (drop n xs) ≡ false
some_below zero [] h = absurd (omega arith)
some_below zero (x ∷ xs) h = refl
some_below (suc n) [] h = absurd (omega arith)
some_below (suc n) (x ∷ xs) h = some_below n xs (omega arith)

-- nothing is left exactly where all was put
pub nothing_left : (n : ℕ) (xs : List ℕ) → n ≤ length xs → (n == length xs) ≡ is_nil (drop n xs)
nothing_left n xs h = elim (eqb_tells n (length xs)) [
  | inl same ↦ same.0 ∙ sym (nil_at n xs same.1)
  | inr other ↦ other.0 ∙ sym (some_below n xs (omega (arith, other.1)))
]

after_first : (n : ℕ) (xs : List ℕ) → rest (drop n xs) ≡ drop (suc n) xs
after_first zero [] = refl
after_first zero (x ∷ xs) = refl
after_first (suc n) [] = refl
after_first (suc n) (x ∷ xs) = after_first n xs

-- once the next is put, what is left is the rest
pub rest-drop : (n : ℕ) (xs : List ℕ) → rest (drop n xs) ≡ drop (n + 1) xs
rest-drop n xs = rw add-one (after_first n xs)
