-- What two texts ask for that is run in rounds, and what is printed of it (this project's own
-- format).
use Rattle.std.specs.Prelude.{◌≡◌, ℕ, List, Bool, Result, Ok}
use Rattle.lexer.specs.declared.fault.LineFault.{LineFault}
use Rattle.one_order.specs.Load.{Load}
use Rattle.core_laws.specs.Machine.{Core, IsAfter}
use Rattle.fair_rounds.specs.declared.pacing.Pace.{Pace}
use Rattle.fair_rounds.specs.Fewest.{AreFewestPaced, paced_rounds}
use Rattle.program_fault.specs.declared.fault.ProgramFault.{ProgramFault}
use Rattle.program_fault.specs.Done.{Does, Output}
use Rattle.program_fault.specs.Outcome.{IsTextsFault}
use Rattle.command_texts.specs.Run.{AskedRun, IsRunText}

-- a load that is to make so many rounds of a pace
abbrev pub asked_rounds : Pace → Load → ℕ → AskedRun
asked_rounds pace l k = record { load = l; steps = paced_rounds pace l k }

-- a machine has made the fewest rounds of a pace that finish every script, at most so many, from the load
pub record HasMadeRounds (pace : Pace) (l : Load) (most : ℕ) (c : Core) : Type 0 where
  pub rounds : ℕ
  pub fewest : AreFewestPaced pace l most rounds
  pub after : IsAfter l c (paced_rounds pace l rounds)

-- a text is the report of the run of the fewest rounds of a pace that finish every script, at most so many
pub record IsRoundText (pace : Pace) (asked : Result Load LineFault) (most : ℕ) (finished : Bool)
    (text : List ℕ) : Type 0 where
  pub load : Load
  pub read : asked ≡ Ok load
  pub rounds : ℕ
  pub fewest : AreFewestPaced pace load most rounds
  pub report : IsRunText (Ok (asked_rounds pace load rounds)) finished text

-- the report of the run in rounds of a pace was printed
abbrev pub PrintsRounds : Pace → Result Load LineFault → ℕ → Output → Output
    → Result Bool ProgramFault → Type 0
PrintsRounds pace asked most = Does (IsRoundText pace asked most) (IsTextsFault asked)
