-- Answers in front of those that can be to an operation.
use Rattle.std.proofs.Common.{◌≡◌, ◌≢◌, ℕ, zero, suc, ◌+◌, ◌-◌, ◌<◌, ◌≤◌, ◌==◌, Bool, false, List, [], ◌∷◌, drop, Some, refl, sym, ◌∙◌, ap, arith, slice_get}
use Rattle.std.specs.List.{find}
use Rattle.std.proofs.lemmas.Bool.{ne_eqb, cond-false}
use Rattle.one_order.specs.declared.answer.Answer.{Answer}
use Rattle.machine_asked.specs.Near.{AreNear}

abbrev is_to : ℕ → Answer → Bool
is_to index a = a.index == index

-- where none in front is to it, the first of all is the first of the others
behind : (answers : List Answer) (n index : ℕ) → ((k : ℕ) (a : Answer) → k < n → slice_get answers k ≡ Some a → a.index ≢ index)
    → find (is_to index) (drop n answers) ≡ find (is_to index) answers
behind [] zero index other = refl
behind [] (suc n) index other = refl
behind (a ∷ answers) zero index other = refl
behind (a ∷ answers) (suc n) index other =
    let low : zero < suc n = omega arith in
    let not_it : (a.index == index) ≡ false = ne_eqb a.index index (other 0 a low refl) in
    behind answers n index (λ k b below there. other (suc k) b (omega (arith, below)) there)
    ∙ sym (cond-false (a.index == index) (Some a) (find (is_to index) answers) not_it)

pub near_behind : (answers : List Answer) (n index : ℕ) → AreNear answers → n ≡ index - 16 → find (is_to index) (drop n answers) ≡ find (is_to index) answers
near_behind answers n index near is =
    behind answers n index (λ k a below there same. let most = near k a there in omega (arith, most, below, is, same))
