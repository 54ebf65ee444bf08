-- What is answered to a run text that is replayed over a network.
use Rattle.std.specs.Prelude.{◌≡◌, ◌⊎◌, ℕ, List, Result, Ok, Err, Some, slice_get}
use Rattle.lexer.specs.declared.refusal.Refusal.{Refusal}
use Rattle.lexer.specs.Outcome.{refusal_at}
use Rattle.network_judge.specs.Verdicts.{IsFirstFault}
use Rattle.network_text.specs.Network.{NetworkSpec}
use Rattle.network_machine.specs.declared.moves.Move.{Move}
use Rattle.network_machine.specs.declared.moves.Ending.{Ending}
use Rattle.network_machine.specs.declared.moves.Ending.TheVariants.{Locked}
use Rattle.network_machine.specs.declared.moves.Hindrance.{Hindrance}
use Rattle.network_machine.specs.Machine.{NetworkMachineSpec, IsOpenedNetwork}
use Rattle.network_machine.specs.Runs.{RunsTo, StopsAt}
use Rattle.network_machine.specs.Endings.{IsEnding}
use Rattle.network_run.specs.declared.reason.RunReason.{RunReason}
use Rattle.network_run.specs.declared.reason.RunReason.TheVariants as reason
use Rattle.network_run.specs.declared.replaying.Replayed.{Replayed}
use Rattle.network_run.specs.declared.replaying.Replayed.TheVariants as replayed
use Rattle.network_run.specs.declared.replaying.Made.{Made}
use Rattle.network_run.specs.declared.replaying.Made.TheVariants as made
use Rattle.network_run.specs.LockedUp.{MovesLockUp}
use Rattle.network_run.specs.Moved.{RunSpec, run_or_why}

-- the moves are made one after the other from the empty network, and the run ends so; where it ends
-- locked, they deadlock the network
pub record RunEnds (n : NetworkSpec) (depth : ℕ) (moves : List Move) (ending : Ending) : Type 0
  where
    pub opened : NetworkMachineSpec
    pub reached : NetworkMachineSpec
    pub opens : IsOpenedNetwork n.table n.replies depth opened
    pub runs : RunsTo opened reached moves
    pub ends : IsEnding reached ending
    pub locks : ending ≡ Locked → MovesLockUp n depth moves

-- those before a place are made so, and no event makes the move at it
pub record RunStops (n : NetworkSpec) (depth : ℕ) (moves : List Move) (place : ℕ) : Type 0 where
  pub opened : NetworkMachineSpec
  pub reached : NetworkMachineSpec
  pub opens : IsOpenedNetwork n.table n.replies depth opened
  pub stops : StopsAt opened reached moves place

-- what becomes of moves
abbrev pub IsMade : NetworkSpec → ℕ → List Move → Made → Type 0
IsMade n depth moves (made.Ended ending) = RunEnds n depth moves ending
IsMade n depth moves (made.Stopped place hindrance) = RunStops n depth moves place

-- the move of a line may not be made, though those before it are
pub record IsHinderedRun (n : NetworkSpec) (depth : ℕ) (run : RunSpec) (e : Refusal RunReason)
    : Type 0 where
  pub place : ℕ
  pub hindrance : Hindrance
  pub reason : e.reason ≡ reason.Hindered hindrance
  pub line : slice_get run.lines place ≡ Some e.line
  pub stops : RunStops n depth run.moves place

-- the move of a line may not be made, though those before it are; or out of memory
abbrev pub IsRefusedRun : NetworkSpec → ℕ → RunSpec → Refusal RunReason → Type 0
IsRefusedRun n depth run e = (e ≡ refusal_at 0 reason.Memory) ⊎ IsHinderedRun n depth run e

-- a replay over a network in which not all pairs have routes names the first that has none; else
-- the run ends so
abbrev pub IsReplayed : NetworkSpec → ℕ → List Move → Replayed → Type 0
IsReplayed n depth moves (replayed.NoRoute r) = IsFirstFault n.table r
IsReplayed n depth moves (replayed.Ended ending) = RunEnds n depth moves ending

-- what is answered to a text of these lines: how its run ends; or its first line that spells no
-- move, or whose move may not be made; or out of memory
abbrev pub AnswersReplay : NetworkSpec → ℕ → List (List ℕ) → Result Replayed (Refusal RunReason)
    → Type 0
AnswersReplay n depth lines (Ok replay) =
    (run : RunSpec) × (run_or_why lines ≡ Ok run) × IsReplayed n depth run.moves replay
AnswersReplay n depth lines (Err e) =
    (e ≡ refusal_at 0 reason.Memory) ⊎ ((run_or_why lines ≡ Err e)
    ⊎ ((run : RunSpec) × (run_or_why lines ≡ Ok run) × IsHinderedRun n depth run e))
