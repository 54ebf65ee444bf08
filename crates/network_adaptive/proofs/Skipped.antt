-- Channels that are no ejection channels, of which no packets tell.
use Rattle.std.proofs.Common.{◌≡◌, inl, inr, ℕ, suc, Bool, true, false, Some, List, [], sym, ◌∙◌, ap, arith}
use Rattle.std.specs.Prelude.{slice_get}
use Rattle.std.proofs.lemmas.Bool.{cases_lt}
use Rattle.network_judge.specs.declared.table.Kind.{Kind}
use Rattle.network_judge.specs.declared.table.Join.{Join}
use Rattle.network_judge.specs.declared.table.Kind.TheVariants.{Ejection}
use Rattle.network_judge.specs.Table.{table_of, joins_of, is_receiver}
use Rattle.network_adaptive.specs.Longest.{PassesOver, StartsThere, OneStepMore, IsMostPassed}
use Rattle.network_adaptive.specs.Travel.{HasNumbersTo}

-- no packets go to a channel that is no ejection channel
no_passes : (kinds : List Kind) (joins : List Join) (step : ℕ → ℕ → ℕ → Bool)
    → ((i j : ℕ) → joins_of (table_of [] joins []) i j ≡ true → slice_get kinds j ≡ Some Ejection)
    → (j i x k : ℕ) → is_receiver (slice_get kinds j) ≡ false → i ≡ j → PassesOver joins (step i) i x k → ⊥
no_passes kinds joins step receivers j i x k other same (StartsThere u joined) =
    let bad : true ≡ false = sym (ap is_receiver (receivers u i joined)) ∙ (ap (λ z. is_receiver (slice_get kinds z)) same ∙ other) in
    absurd (cc)
no_passes kinds joins step receivers j i x k other same (OneStepMore u v m p s) = no_passes kinds joins step receivers j i u m other same p

pub most_skip : (kinds : List Kind) (joins : List Join) (step : ℕ → ℕ → ℕ → Bool)
    → ((i j : ℕ) → joins_of (table_of [] joins []) i j ≡ true → slice_get kinds j ≡ Some Ejection)
    → (j m most : ℕ) → m ≡ suc j → is_receiver (slice_get kinds j) ≡ false → IsMostPassed joins step j most → IsMostPassed joins step m most
most_skip kinds joins step receivers j m most e other before = record {
  all = λ i x k l p. elim (cases_lt i j) [
    | inl less ↦ before.all i x k less p
    | inr high ↦ absurd (no_passes kinds joins step receivers j i x k other (omega arith) p)
  ];
  some = before.some;
}

pub numbers_skip : (kinds : List Kind) (joins : List Join) (choices : List ℕ) (ways : ℕ) (none : List Bool)
    → ((i j : ℕ) → joins_of (table_of [] joins []) i j ≡ true → slice_get kinds j ≡ Some Ejection)
    → (j : ℕ) → is_receiver (slice_get kinds j) ≡ false → HasNumbersTo kinds joins choices ways none j
numbers_skip kinds joins choices ways none receivers j other = record {
  number = λ x. x;
  low = λ x l. l;
  up = λ x y c e. (let bad : true ≡ false = sym (ap is_receiver (receivers c.0 j c.1)) ∙ other in absurd (cc));
}
