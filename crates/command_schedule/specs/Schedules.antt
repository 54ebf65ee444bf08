-- What is printed of a run as a schedule (this project's own format).
use Rattle.std.specs.Prelude.{◌≡◌, ℕ, List, Bool, Result, Ok, IsTrue, ◌↔◌, length}
use Rattle.std.specs.Str.Lines.{lines}
use Rattle.torus.specs.declared.step.Step.{Step}
use Rattle.lexer.specs.declared.fault.LineFault.{LineFault}
use Rattle.script_lines.specs.Machine.{MachineSpec}
use Rattle.script.specs.Steps.{steps_of}
use Rattle.one_order.specs.Load.{Load}
use Rattle.one_order.specs.AbstractScripts.{AreFinished}
use Rattle.core_laws.specs.Core.{run_of}
use Rattle.core_laws.specs.Machine.{core_after_load, all_finished}
use Rattle.core_laws.specs.MachineMoves.{moves_of}
use Rattle.command_schedule.specs.Line.{text_of}
use Rattle.command_schedule.specs.Schedule.{schedule_of, moves_schedule}
use Rattle.program_fault.specs.declared.fault.ProgramFault.{ProgramFault}
use Rattle.program_fault.specs.Done.{Does, Output}
use Rattle.program_fault.specs.Outcome.{IsTextsFault}
use Rattle.machine_core.specs.Run.{AskedRun}
use Rattle.fair_rounds.specs.declared.pacing.Pace.{Pace}
use Rattle.fair_rounds.specs.Fewest.{AreFewestPaced, paced_rounds}
use Rattle.command_schedule.specs.Rounds.{moves_of_rounds}

-- A text tells of a run of these steps from a load: the answer says whether every script is
-- finished after them; the text is read, for the machine of the load, as the moves among them,
-- without a fault; and these alone lead to the same machine, whose report is the same.
pub record TellsRun (l : Load) (steps : List Step) (finished : Bool) (text : List ℕ) : Type 0 where
  pub value : finished ≡ all_finished (core_after_load l steps).state
  pub ended : IsTrue finished ↔ AreFinished (run_of l steps) (length steps) l.scripts
  pub again : (machine : MachineSpec) → machine.shape ≡ l.shape
      → steps_of machine (lines text) ≡ Ok (moves_of l steps)
  pub same : core_after_load l (moves_of l steps) ≡ core_after_load l steps

-- a text is the schedule of the fewest rounds of a pace that finish every script, at most so many: the
-- moves of each round, in their order, behind its heading
pub record IsRoundsText (pace : Pace) (asked : Result Load LineFault) (most : ℕ)
    (finished : Bool) (text : List ℕ) : Type 0 where
  pub load : Load
  pub read : asked ≡ Ok load
  pub rounds : ℕ
  pub fewest : AreFewestPaced pace load most rounds
  pub is : text ≡ text_of (schedule_of (moves_of_rounds pace load rounds) finished)
  pub run : TellsRun load (paced_rounds pace load rounds) finished text

-- the schedule of the rounds of a pace was printed
abbrev pub PrintsSchedule : Pace → Result Load LineFault → ℕ → Output → Output
    → Result Bool ProgramFault → Type 0
PrintsSchedule pace asked most = Does (IsRoundsText pace asked most) (IsTextsFault asked)

-- a text has the moves among the steps that were asked for
pub record IsMovesText (asked : Result AskedRun LineFault) (finished : Bool) (text : List ℕ) : Type 0
  where
    pub given : AskedRun
    pub read : asked ≡ Ok given
    pub is : text ≡ text_of (moves_schedule (moves_of given.load given.steps) finished)
    pub run : TellsRun given.load given.steps finished text

-- the moves were printed
abbrev pub PrintsMoves : Result AskedRun LineFault → Output → Output → Result Bool ProgramFault
    → Type 0
PrintsMoves asked = Does (IsMovesText asked) (IsTextsFault asked)
