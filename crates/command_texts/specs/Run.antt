-- What the three texts of a run ask for, and what is printed of it (this project's own format).
use Rattle.std.specs.Prelude.{◌≡◌, ℕ, List, Bool, Result, Ok, IsTrue, ◌↔◌, length}
use Rattle.torus.specs.declared.step.Step.{Step}
use Rattle.lexer.specs.declared.fault.LineFault.{LineFault}
use Rattle.one_order.specs.Load.{Load}
use Rattle.core_laws.specs.Core.{run_of}
use Rattle.core_laws.specs.ProgressMoves.{moves_made}
use Rattle.core_laws.specs.Machine.{Core, IsAfter, IsLawful, core_after_load, all_finished}
use Rattle.one_order.specs.AbstractScripts.{AreFinished}
pub use Rattle.machine_core.specs.Run.{AskedRun, asked_of}
use Rattle.report_lines.specs.Line.{text_of}
use Rattle.report_check.specs.Good.{GoodReport}
use Rattle.machine_report.specs.Report.{machine_report}
use Rattle.program_fault.specs.declared.fault.ProgramFault.{ProgramFault}
use Rattle.program_fault.specs.Done.{Does, Output}
use Rattle.program_fault.specs.Outcome.{IsTextsFault}

-- the machine after the steps
abbrev pub core_of : AskedRun → Core
core_of a = core_after_load a.load a.steps

-- a machine has made the steps that were asked for, from the load: it is the one that they lead to
pub record HasRun (asked : Result AskedRun LineFault) (c : Core) : Type 0 where
  pub run : AskedRun
  pub read : asked ≡ Ok run
  pub after : IsAfter run.load c run.steps
  pub reached : c ≡ core_of run

-- so many of the steps that were asked for move, one after the other from the load
pub record HasMoved (asked : Result AskedRun LineFault) (moves : ℕ) : Type 0 where
  pub run : AskedRun
  pub read : asked ≡ Ok run
  pub made : moves ≡ moves_made run.load run.steps

-- no fault, out of memory aside
abbrev pub IsNoFault : ProgramFault → Type 0
IsNoFault f = ⊥

-- a text is the report of a machine's run, a good one, and the answer says whether every script is
-- finished
pub record IsRunOfMachine (c : Core) (finished : Bool) (text : List ℕ) : Type 0 where
  pub is : text ≡ text_of (machine_report c)
  pub good : GoodReport text
  pub value : finished ≡ all_finished c.state
  pub law : (l : Load) (steps : List Step) → IsAfter l c steps
      → IsTrue finished ↔ AreFinished (run_of l steps) (length steps) l.scripts

-- A text is the report of the run that was asked for, and a good one: the run has one legal order,
-- which is that of the report's order lines (Herlihy and Wing, TOPLAS 12(3), 1990:
-- linearizability), every processor has followed its script, and the answer says whether every
-- script is finished.
pub record IsRunText (asked : Result AskedRun LineFault) (finished : Bool) (text : List ℕ) : Type 0
  where
    pub run : AskedRun
    pub read : asked ≡ Ok run
    pub is : text ≡ text_of (machine_report (core_of run))
    pub good : GoodReport text
    pub lawful : IsLawful run.load run.steps (core_of run).book.rows
    pub value : finished ≡ all_finished (core_of run).state
    pub ended : IsTrue finished
        ↔ AreFinished (run_of run.load run.steps) (length run.steps) run.load.scripts

-- the report of the run was printed
abbrev pub PrintsRun : Result AskedRun LineFault → Output → Output → Result Bool ProgramFault → Type 0
PrintsRun asked = Does (IsRunText asked) (IsTextsFault asked)
