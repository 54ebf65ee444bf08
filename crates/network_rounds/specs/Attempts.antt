-- Moves that are enabled, and moves that are attempted.
use Rattle.std.specs.Prelude.{◌≡◌, ◌⊎◌, ℕ, List, [], ◌∷◌, ◌++◌}
use Rattle.network_machine.specs.declared.moves.Move.{Move}
use Rattle.network_machine.specs.Machine.{NetworkMachineSpec, SameTables, MovesAll, Permits, Prevents}
use Rattle.network_rounds.specs.declared.arbiter.Attempt.{Attempt}
use Rattle.network_rounds.specs.Arbiters.{granted_to}

-- of some moves, in their order, those that an event makes
abbrev pub AreEnabledMoves : NetworkMachineSpec → List Move → List Move → Type 0
AreEnabledMoves m [] enabled = enabled ≡ []
AreEnabledMoves m (move ∷ moves) enabled =
    (Permits m move × (more : List Move) × (enabled ≡ move ∷ more) × AreEnabledMoves m moves more)
    ⊎ (Prevents m move × AreEnabledMoves m moves enabled)

-- a move is made, and leads from one machine to another
abbrev pub IsMoveMade : NetworkMachineSpec → NetworkMachineSpec → Move → Type 0
IsMoveMade old new move = MovesAll old new move × SameTables old new

-- Some choices are attempted one after the other: each is made if an event makes it where it is tried,
-- and else nothing changes; those that are made, in their order. What was granted last changes with
-- those that are made.
abbrev pub AttemptsMoves : NetworkMachineSpec → NetworkMachineSpec → List ℕ → List ℕ → List Attempt
    → List Move → Type 0
AttemptsMoves old new lasts later [] made = (new ≡ old) × (later ≡ lasts) × (made ≡ [])
AttemptsMoves old new lasts later (a ∷ attempts) made =
    ((next : NetworkMachineSpec) × IsMoveMade old next a.of × (more : List Move)
    × (made ≡ a.of ∷ more) × AttemptsMoves next new (granted_to lasts a) later attempts more)
    ⊎ (Prevents old a.of × AttemptsMoves old new lasts later attempts made)

-- a list goes on with those of some moves that are enabled
pub record AddsEnabled (m : NetworkMachineSpec) (moves before after : List Move) : Type 0 where
  pub added : List Move
  pub enabled : AreEnabledMoves m moves added
  pub is : after ≡ before ++ added

-- a list goes on with those of some attempted choices that are made
pub record AddsMade (old new : NetworkMachineSpec) (lasts later : List ℕ) (tried : List Attempt)
    (before after : List Move) : Type 0 where
  pub added : List Move
  pub attempts : AttemptsMoves old new lasts later tried added
  pub is : after ≡ before ++ added
