-- Clocked rounds: what an arbiter chooses of the choices that are enabled when a round begins is
-- attempted once, as clocked hardware does.
use Rattle.std.specs.Prelude.{ℕ, ◌%◌, List, ◌++◌, Vec, length, take, drop}
use Rattle.std.specs.List.{flat_map}
use Rattle.network_machine.specs.declared.moves.Move.{Move}
use Rattle.network_machine.specs.Machine.{NetworkMachineSpec}
use Rattle.network_rounds.specs.declared.arbiter.Arbiter.{Arbiter}
use Rattle.network_rounds.specs.Arbiters.{attempts_by}
use Rattle.network_rounds.specs.Attempts.{AreEnabledMoves, AttemptsMoves}

-- some moves, from the one whose turn it is (a rotating arbiter: Dally and Towles, Principles and
-- Practices of Interconnection Networks, 2004, chapter 18)
abbrev pub turned : ℕ → List Move → List Move
turned turn moves = drop (turn % length moves) moves ++ take (turn % length moves) moves

-- those of some groups, each from the move whose turn it is
abbrev pub turned_groups : {A : Type 0} → ℕ → List (Vec Move A) → List Move
turned_groups turn groups = flat_map (λ group. turned turn group.items) groups

-- A round over some choices: of those that are enabled when it begins an arbiter has some attempted,
-- in their order. What each channel was granted to last is known before the round and behind it.
pub record IsRound (by : Arbiter) (old new : NetworkMachineSpec) (lasts later : List ℕ)
    (choices made : List Move) : Type 0 where
  pub enabled : List Move
  pub begins : AreEnabledMoves old choices enabled
  pub attempts : AttemptsMoves old new lasts later (attempts_by by old lasts enabled) made
