-- Steps and rounds, as C sees them.
use Rattle.std.specs.Prelude.{◌≡◌, ℕ, ◌+◌, ◌≤◌, ◌↔◌, ◌++◌, [], ◌∷◌, List, false, IsTrue, Option, Some, None}
use Rattle.std.specs.Prelude.{is_none, is_some, length}
use Rattle.std.specs.List.{filter_map, position_from}
use Rattle.torus.specs.Shape.{Shape}
use Rattle.torus.specs.declared.step.Step.{Step}
use Rattle.torus.specs.declared.step.Stepped.{Stepped}
use Rattle.torus.specs.declared.step.Stepped.TheVariants.{Moved, Idle}
use Rattle.core_laws.specs.Rounds.{moves_in}
use Rattle.one_order.specs.AbstractScripts.{AreFinished}
use Rattle.core_laws.specs.Core.{Load, run_of, step, round}
use Rattle.core_laws.specs.Machine.{Core, IsAfter, RunsOn, MakesMove, Steps}
use Rattle.core_laws.specs.Machine.{core_after, built_to}
use Rattle.core_laws.specs.Machine.{all_finished}
use Rattle.machine_core.specs.Rounds.{rounds_of, NeedsRounds}
use Rattle.core_laws.specs.ProgressMoves.{IsLive, moves_left}
use Rattle.torusmem_c.specs.declared.outcome.Outcome.{Outcome}
use Rattle.torusmem_c.specs.declared.outcome.Code.TheVariants as code
use Rattle.torusmem_c.specs.declared.stepping.AttemptRecord.{AttemptRecord}
use Rattle.torusmem_c.specs.Choices.{attempt_named, step_named}
use Rattle.torusmem_c.specs.Outcome.{c_outcome, c_flag}
use Rattle.torusmem_c.specs.Held.{HandleTells}

-- 1 where a step moved_number, 0 where it was idle (this project's own format)
abbrev pub moved_number : Stepped → ℕ
moved_number Moved = 1
moved_number Idle = 0

-- the machine makes a step, which does exactly what its choice says; after any steps that led to
-- the machine from a load it leads on
pub record MakesStep (attempt : Step) (old new : Core) (r : Outcome) : Type 0 where
  pub stepped : Stepped
  pub step : Steps old new stepped attempt
  pub answer : r ≡ c_outcome code.Done (moved_number stepped)
  pub runs_on : RunsOn old new (attempt ∷ [])

-- the machine makes a step; where there is none, nothing changes
abbrev pub MakesAttempt : Option Step → Core → Core → Outcome → Type 0
MakesAttempt None old new r = (new ≡ old) × (r ≡ c_outcome code.NoSuch 0)
MakesAttempt (Some attempt) old new r = MakesStep attempt old new r

-- the machine makes the step that numbers name on its torus (this project's own format)
abbrev pub MakesNamed : ℕ → ℕ → ℕ → Core → Core → Outcome → Type 0
MakesNamed agent choice number old =
    MakesAttempt (step_named old.shape agent choice number) old

-- the steps that attempts name, in order; what names no choice is left out (this project's own format)
abbrev pub steps_named : List AttemptRecord → List Step
steps_named attempts = filter_map (λ it. attempt_named it.agent it.choice it.number) attempts

-- the machine makes these steps, one after the other, and how many of them moved_number is answered; after
-- any steps that led to the machine from a load they lead on
pub record MakesSteps (steps : List Step) (old new : Core) (r : Outcome) : Type 0 where
  pub state : new ≡ core_after old steps
  pub answer : r ≡ c_outcome code.Done (moves_in (step (built_to old)) old.state steps)
  pub left : new.moves_left + moves_in (step (built_to old)) old.state steps ≡ old.moves_left
  pub runs_on : RunsOn old new steps

-- whether a step is enabled, or that there is none such (this project's own format)
abbrev pub enabled_outcome : Option Step → Core → Outcome
enabled_outcome None c = c_outcome code.NoSuch 0
enabled_outcome (Some attempt) c =
    c_outcome code.Done (c_flag (is_some (step (built_to c) c.state attempt)))

-- it is told whether the step is enabled that numbers name on its torus (this project's own format)
abbrev pub enabled_told : ℕ → ℕ → ℕ → Core → Outcome
enabled_told agent choice number c = enabled_outcome (step_named c.shape agent choice number) c

-- the place of the first attempt that names no step of a torus (this project's own format)
abbrev pub first_unnamed : Shape → List AttemptRecord → Option ℕ
first_unnamed s attempts =
    position_from (λ it. is_none (step_named s it.agent it.choice it.number)) 0 attempts

-- the machine makes the steps that attempts name; where one names none, the first of these is told,
-- and nothing changes (this project's own format)
abbrev pub MakesUnless : Option ℕ → List Step → Core → Core → Outcome → Type 0
MakesUnless None steps old new r = MakesSteps steps old new r
MakesUnless (Some at) steps old new r = (new ≡ old) × (r ≡ c_outcome code.NoSuch at)

abbrev pub MakesAllSteps : List AttemptRecord → Core → Core → Outcome → Type 0
MakesAllSteps attempts old = MakesUnless (first_unnamed old.shape attempts) (steps_named attempts) old

-- the machine makes one round; where some script isn't finished, the round makes a move
pub record MakesRound (old new : Core) (r : Outcome) : Type 0 where
  pub state : new ≡ core_after old (round old.shape)
  pub moves : new.moves_left + moves_in (step (built_to old)) old.state (round old.shape)
      ≡ old.moves_left
  pub live : all_finished old.state ≡ false → MakesMove old (round old.shape)
  pub runs_on : RunsOn old new (round old.shape)
  pub answer : r ≡ c_outcome code.Done 0

-- the machine makes the least number of rounds after which every script is finished, and that
-- number is answered
pub record SaysFinished (old new : Core) (r : Outcome) : Type 0 where
  pub rounds : ℕ
  pub answer : r ≡ c_outcome code.Done rounds
  pub state : new ≡ core_after old (rounds_of old.shape rounds)
  pub needed : NeedsRounds old rounds
  pub few : (l : Load) (steps : List Step) → IsAfter l old steps
      → rounds ≤ moves_left l steps (length steps)
  pub left : rounds ≤ old.moves_left
  pub runs_on : RunsOn old new (rounds_of old.shape rounds)
  pub scripts : (l : Load) (before : List Step) → IsAfter l old before
      → AreFinished (run_of l (before ++ rounds_of old.shape rounds))
      (length (before ++ rounds_of old.shape rounds)) l.scripts

-- it is told whether every script is finished; until then some step of a round is enabled
pub record TellsFinished (old new : Core) (r : Outcome) : Type 0 where
  pub same : new ≡ old
  pub answer : r ≡ c_outcome code.Done (c_flag (all_finished old.state))
  pub live : all_finished old.state ≡ false → IsLive (built_to old) old.state
  pub scripts : (l : Load) (steps : List Step) → IsAfter l old steps
      → IsTrue (all_finished old.state) ↔ AreFinished (run_of l steps) (length steps) l.scripts

-- it is told how many moves the scripts still allow; no list of steps makes more
pub record TellsMovesLeft (old new : Core) (r : Outcome) : Type 0 where
  pub same : new ≡ old
  pub answer : r ≡ c_outcome code.Done old.moves_left
  pub left : (l : Load) (steps : List Step) → IsAfter l old steps
      → old.moves_left ≡ moves_left l steps (length steps)
  pub exact : (more : List Step) → moves_in (step (built_to old)) old.state more ≤ old.moves_left
