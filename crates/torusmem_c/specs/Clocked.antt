-- Clocked and fair rounds, as C sees them.
use Rattle.std.specs.Prelude.{◌≡◌, ℕ, ◌+◌, ◌≤◌, ◌++◌, List, false, length}
use Rattle.torus.specs.declared.step.Step.{Step}
use Rattle.core_laws.specs.Rounds.{moves_in}
use Rattle.core_laws.specs.ProgressMoves.{moves_left}
use Rattle.one_order.specs.AbstractScripts.{AreFinished}
use Rattle.core_laws.specs.Core.{Load, run_of, step}
use Rattle.core_laws.specs.Machine.{Core, IsAfter, RunsOn, MakesMove, core_after, built_to}
use Rattle.core_laws.specs.Machine.{all_finished}
use Rattle.machine_core.specs.Clocked.{NeedsClocked, clocked_round, clocked_rounds}
use Rattle.fair_rounds.specs.Guard.{holds}
use Rattle.machine_asked.specs.Asked.{AreFewestFair, Asked, asked_attempts, fair_made, fair_rounds_made}
use Rattle.machine_asked.specs.Asked.{fair_rounds_of}
use Rattle.torusmem_c.specs.declared.outcome.Outcome.{Outcome}
use Rattle.torusmem_c.specs.declared.outcome.Code.TheVariants as code
use Rattle.torusmem_c.specs.Outcome.{c_flag, c_outcome}

-- the machine makes one clocked round; where some script isn't finished, the round makes a move
pub record MakesClocked (turn : ℕ) (old new : Core) (r : Outcome) : Type 0 where
  pub state : new ≡ core_after old (clocked_round old turn)
  pub moves : new.moves_left + moves_in (step (built_to old)) old.state (clocked_round old turn)
      ≡ old.moves_left
  pub live : all_finished old.state ≡ false → MakesMove old (clocked_round old turn)
  pub runs_on : RunsOn old new (clocked_round old turn)
  pub answer : r ≡ c_outcome code.Done 0

-- the machine makes the least number of clocked rounds after which every script is finished, and
-- that number is answered
pub record SaysClocked (old new : Core) (r : Outcome) : Type 0 where
  pub rounds : ℕ
  pub answer : r ≡ c_outcome code.Done rounds
  pub state : new ≡ core_after old (clocked_rounds old rounds)
  pub needed : NeedsClocked old rounds
  pub few : (l : Load) (steps : List Step) → IsAfter l old steps
      → rounds ≤ moves_left l steps (length steps)
  pub left : rounds ≤ old.moves_left
  pub runs_on : RunsOn old new (clocked_rounds old rounds)
  pub scripts : (l : Load) (before : List Step) → IsAfter l old before
      → AreFinished (run_of l (before ++ clocked_rounds old rounds))
      (length (before ++ clocked_rounds old rounds)) l.scripts

-- the machine makes one fair round, by the guard that the handle holds beside it, and the answer says whether
-- that held operations back; where some script isn't finished, the round makes a move
pub record MakesFair (old new : Asked) (r : Outcome) : Type 0 where
  pub made : new ≡ fair_made old
  pub answer : r ≡ c_outcome code.Done (c_flag (holds old.guard old.core))
  pub moves : new.core.moves_left + moves_in (step (built_to old.core)) old.core.state (asked_attempts old)
      ≡ old.core.moves_left
  pub live : all_finished old.core.state ≡ false → MakesMove old.core (asked_attempts old)
  pub runs_on : RunsOn old.core new.core (asked_attempts old)

-- the machine makes the fewest fair rounds that finish every script, at most so many, and their number is
-- answered
pub record SaysFair (most : ℕ) (old new : Asked) (r : Outcome) : Type 0 where
  pub rounds : ℕ
  pub answer : r ≡ c_outcome code.Done rounds
  pub made : new ≡ fair_rounds_made old rounds
  pub fewest : AreFewestFair old most rounds
  pub left : rounds ≤ old.core.moves_left
  pub runs_on : RunsOn old.core new.core (fair_rounds_of old rounds)
