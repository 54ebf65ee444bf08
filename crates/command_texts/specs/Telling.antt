-- What a watcher of a run by steps or in rounds gets to know (this project's own format).
use Rattle.std.specs.Prelude.{◌≡◌, ℕ, zero, suc, ◌+◌, List, [], ◌∷◌, ◌++◌, Bool, true, false, Result, Ok, Err, ◌⊎◌}
use Rattle.std.specs.Prelude.{length}
use Rattle.std.specs.Io.Iter.{u64_saturate}
use Rattle.std.specs.List.{sum_by}
use Rattle.lexer.specs.declared.fault.LineFault.{LineFault}
use Rattle.one_order.specs.Load.{Load}
use Rattle.core_laws.specs.ProgressMoves.{moves_made}
use Rattle.core_laws.specs.Machine.{Core, shown}
use Rattle.program_fault.specs.declared.fault.ProgramFault.{ProgramFault}
use Rattle.program_fault.specs.declared.fault.ProgramFault.TheVariants as program
use Rattle.command_texts.specs.Calls.{Call, Wants, Made, Ended, Hears}
use Rattle.command_texts.specs.Run.{AskedRun, HasMoved, core_of}
use Rattle.fair_rounds.specs.declared.pacing.Pace.{Pace}
use Rattle.fair_rounds.specs.Paces.{guard_behind}
use Rattle.fair_rounds.specs.Fewest.{AreFewestPaced, paced_rounds}
use Rattle.command_texts.specs.Rounds.{asked_rounds}

-- how many operations a machine has answered; at most u64::MAX
abbrev pub answered_by : Core → ℕ
answered_by c = u64_saturate (sum_by length (shown c).answers)

-- how many operations are answered after so many rounds of a pace
abbrev pub answered_after : Pace → Load → ℕ → ℕ
answered_after pace l k = answered_by (core_of (asked_rounds pace l k))

-- the calls behind a round: the question, and how far the run is, exactly where that is wanted
abbrev pub round_calls : ℕ → ℕ → Bool → List Call
round_calls rounds answered false = Wants false ∷ []
round_calls rounds answered true = Wants true ∷ Made rounds answered ∷ []

-- these are the calls behind the first rounds, one round after the other
abbrev pub AreCallsOfCommand : Pace → Load → ℕ → List Call → Type 0
AreCallsOfCommand pace l zero calls = calls ≡ []
AreCallsOfCommand pace l (suc k) calls =
    (before : List Call) × (wants : Bool) × AreCallsOfCommand pace l k before
    × (calls ≡ before ++ round_calls (k + 1) (answered_after pace l (k + 1)) wants)

-- these are the calls behind the fewest rounds that finish every script, at most so many
pub record AreRoundsCalls (pace : Pace) (l : Load) (most : ℕ) (calls : List Call) : Type 0 where
  pub rounds : ℕ
  pub fewest : AreFewestPaced pace l most rounds
  pub each : AreCallsOfCommand pace l rounds calls

-- these are all calls of the run in rounds of what was asked for: those behind its rounds, and the
-- end, once, with the moves that all its rounds made, and in how many the guard held operations back
pub record AreRunCalls (pace : Pace) (asked : Result Load LineFault) (most : ℕ)
    (calls : List Call) : Type 0 where
  pub load : Load
  pub read : asked ≡ Ok load
  pub before : List Call
  pub made : AreRoundsCalls pace load most before
  pub ended : calls
      ≡ before ++ Ended (moves_made load (paced_rounds pace load made.rounds))
      (guard_behind pace load made.rounds).held ∷ []

-- these are all calls of the run of the steps that were asked for: the end, once, with how many of
-- them moved
pub record AreStepsCalls (asked : Result AskedRun LineFault) (calls : List Call) : Type 0 where
  pub moves : ℕ
  pub moved : HasMoved asked moves
  pub ended : calls ≡ Ended moves 0 ∷ []

-- a watcher hears some such calls, by what it heard before and after
abbrev pub HearsSome : (List Call → Type 0) → (List Call → Type 0) → (List Call → Type 0) → Type 0
HearsSome are old new = (calls : List Call) × are calls × Hears old new calls

-- a watcher hears of the fewest rounds of a pace that finish every script, at most so many; and in so many
-- of them a guard held operations back
pub record HearsPaced (pace : Pace) (l : Load) (most held : ℕ) (old new : List Call → Type 0) : Type 0
  where
    pub heard : HearsSome (AreRoundsCalls pace l most) old new
    pub back : held ≡ (guard_behind pace l heard.1.rounds).held

-- a watcher hears nothing, by what it heard before and after
abbrev pub HearsNothing : (List Call → Type 0) → (List Call → Type 0) → Type 0
HearsNothing old new = (calls : List Call) → old calls → new calls

-- a watcher gets all such calls, unless a text has a fault, or memory is wanting for the
-- machine
abbrev pub TellsCommand : (List Call → Type 0) → (List Call → Type 0) → (List Call → Type 0)
    → Result Bool ProgramFault → Type 0
TellsCommand are old new (Ok finished) = HearsSome are old new
TellsCommand are old new (Err program.Output) = HearsSome are old new
TellsCommand are old new (Err (program.Fault which)) = HearsSome are old new ⊎ HearsNothing old new
TellsCommand are old new (Err (program.Line found)) = HearsNothing old new
TellsCommand are old new (Err program.Tile) = ⊥
TellsCommand are old new (Err (program.Bad line)) = ⊥

-- a watcher of a run in rounds is called at each round and at the end
abbrev pub TellsRounds : Pace → Result Load LineFault → ℕ → (List Call → Type 0)
    → (List Call → Type 0) → Result Bool ProgramFault → Type 0
TellsRounds pace asked most = TellsCommand (AreRunCalls pace asked most)

-- a watcher of a run of steps is called at its end
abbrev pub TellsSteps : Result AskedRun LineFault → (List Call → Type 0) → (List Call → Type 0)
    → Result Bool ProgramFault → Type 0
TellsSteps asked = TellsCommand (AreStepsCalls asked)
