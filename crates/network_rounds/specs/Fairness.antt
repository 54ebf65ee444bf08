-- Grants of an output, one after the other, and that they go round (Dally and Towles, Principles and
-- Practices of Interconnection Networks, 2004, chapter 18: strong fairness of a round-robin arbiter).
use Rattle.std.specs.Prelude.{◌≡◌, ◌⊎◌, ℕ, ◌<◌, ◌≤◌, ◌==◌, Bool, true, List, [], ◌∷◌, ◌++◌, length}
use Rattle.std.specs.Prelude.{slice_index, Some}
use Rattle.std.specs.List.{list_any}
use Rattle.network_machine.specs.declared.moves.Move.{Move}
use Rattle.network_machine.specs.Machine.{NetworkMachineSpec}
use Rattle.network_machine.specs.Moves.{move_channel}
use Rattle.network_rounds.specs.declared.arbiter.Arbiter.TheVariants.{Rotating}
use Rattle.network_rounds.specs.Arbiters.{output_asked, first_asking, first_behind}
use Rattle.network_rounds.specs.Rounds.{IsRound}

-- a grant of an output: the inputs that ask for it, and the one that it is granted to
pub record Grant : Type 0 where
  pub asking : List ℕ
  pub to : ℕ

-- whether an input is one of some
abbrev pub has_input : ℕ → List ℕ → Bool
has_input x inputs = list_any (λ z. z == x) inputs

-- grants of an output, the first one first: each is that of the first input that asks behind the one
-- that it was granted to before
abbrev pub AreGrantsInTurn : ℕ → List Grant → Type 0
AreGrantsInTurn last [] = Unit {0}
AreGrantsInTurn last (g ∷ grants) =
    (first_behind last g.asking ≡ Some g.to) × AreGrantsInTurn g.to grants

-- each is one of these inputs, and this input asks at each
abbrev pub AskAtEach : List ℕ → ℕ → List Grant → Type 0
AskAtEach inputs x [] = Unit {0}
AskAtEach inputs x (g ∷ grants) = (has_input g.to inputs ≡ true) × (has_input x g.asking ≡ true)
    × AskAtEach inputs x grants

-- whether an input is granted one of them
abbrev pub is_granted : ℕ → List Grant → Bool
is_granted x grants = list_any (λ g. g.to == x) grants

-- among as many grants of an output as it has inputs, one is of each input that asks at all of them
abbrev pub GoRound : Type 0
GoRound = (last x : ℕ) (inputs : List ℕ) (grants : List Grant) → AreGrantsInTurn last grants
    → AskAtEach inputs x grants → has_input x inputs ≡ true → length inputs ≤ length grants
    → is_granted x grants ≡ true

-- a move that is made is one by which a head is put that asks for an output, from the input that the
-- output is granted to
pub record IsGrantOf (m : NetworkMachineSpec) (y x : ℕ) (made : List Move) : Type 0 where
  pub of : Move
  pub before : List Move
  pub behind : List Move
  pub is : made ≡ before ++ of ∷ behind
  pub asks : output_asked m of ≡ Some y
  pub input : move_channel of ≡ x

-- a round leaves what an output was granted to last, or grants it to the first of the inputs that ask,
-- by a move that is made
abbrev pub GrantsInTurn : NetworkMachineSpec → List ℕ → List ℕ → List Move → List Move → ℕ → Type 0
GrantsInTurn m lasts later enabled made y = (slice_index later y ≡ slice_index lasts y)
    ⊎ ((first_asking m lasts enabled y ≡ Some (slice_index later y))
    × IsGrantOf m y (slice_index later y) made)

-- each round by the round robin does so at each output
abbrev pub RoundsGrantInTurn : Type 0
RoundsGrantInTurn = (old new : NetworkMachineSpec) (lasts later : List ℕ) (choices made : List Move)
    (r : IsRound Rotating old new lasts later choices made) (y : ℕ) → y < length lasts
    → GrantsInTurn old lasts later r.enabled made y
