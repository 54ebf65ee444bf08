-- Worked attempts at a counter, against the definitions.
use Rattle.std.proofs.Common.{◌≡◌, ℕ, zero, suc, ◌<◌, Bool, true, false, [], ◌∷◌, Option, Some, None, refl, arith}
use Rattle.std.specs.Prelude.{◌==◌}
use Rattle.core_laws.specs.Rounds.{after_attempts, moves_in, first_enabled, after_rounds, IsLeast}

-- a counter: a choice is enabled where it is the count, and counts on
abbrev counted_on : ℕ → Bool → Option ℕ
counted_on count true = Some (suc count)
counted_on count false = None

abbrev counts : ℕ → ℕ → Option ℕ
counts count choice = counted_on count (count == choice)

-- an attempt that is enabled doesn't end the round: from 0 the choices 0 and 1 count to 2
both_are_made : after_attempts counts 0 (0 ∷ 1 ∷ []) ≡ 2
both_are_made = refl

-- an attempt that is not enabled is no move
one_of_two_moves : moves_in counts 0 (2 ∷ 0 ∷ []) ≡ 1
one_of_two_moves = refl

-- the first enabled choice is the second of these, since the first comes too early
second_is_enabled : first_enabled counts 0 (2 ∷ 0 ∷ []) ≡ Some 0
second_is_enabled = refl

-- the counter is at 1 after one round, and not before; what holds after that round is not asked
one_round : IsLeast counts (0 ∷ []) (λ count. count == 1) 0 1
one_round = record { done = refl; least = before }
  where
    before : (j : ℕ) → j < 1 → (after_rounds counts (0 ∷ []) j 0 == 1) ≡ false
    before zero low = refl
    before (suc j) low = absurd (omega (arith, low))
