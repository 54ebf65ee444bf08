-- What three texts ask for, and the report of it.
use Rattle.std.proofs.Common.{◌≡◌, ℕ, List, Bool, Result, Ok, Err, refl, ap, subst, ◌∙◌}
use Rattle.torus.specs.declared.step.Step.{Step}
use Rattle.lexer.specs.declared.fault.LineFault.{LineFault}
use Rattle.script_lines.specs.Machine.{MachineSpec}
use Rattle.script.specs.Machine.{machine_of}
use Rattle.script_lines.specs.Lines.{ScriptsSpec}
use Rattle.script.specs.Scripts.{scripts_of}
use Rattle.script.specs.Steps.{steps_of}
use Rattle.one_order.specs.Load.{load_of}
use Rattle.core_laws.specs.Machine.{Core, IsLawful, all_finished}
use Rattle.report_lines.specs.Line.{text_of}
use Rattle.machine_report.specs.Report.{machine_report}
use Rattle.program_fault.specs.declared.fault.ProgramFault.{ProgramFault}
use Rattle.program_fault.specs.declared.fault.ProgramFault.TheVariants as program
use Rattle.program_fault.specs.Done.{Does, Output}
use Rattle.command_texts.specs.Run.{AskedRun, HasRun, IsRunOfMachine, IsRunText, asked_of}

-- all three are read
pub all_read : (a b c : List (List ℕ)) (m : MachineSpec) (s : ScriptsSpec) (list : List Step) → machine_of a ≡ Ok m → scripts_of m b ≡ Ok s
    → steps_of m c ≡ Ok list
    → asked_of a b c ≡ Ok (record { load = load_of m s; steps = list })
all_read a b c m s list read scripts steps = rw (read, scripts, steps) refl

-- the report of a machine that has made the steps is the report of the run
pub run_printed : (asked : Result AskedRun LineFault) (c : Core) (finished : Bool) (text : List ℕ) → HasRun asked c → IsRunOfMachine c finished text
    → IsRunText asked finished text
run_printed asked c finished text ran printed = record {
  run = ran.run;
  read = ran.read;
  is = printed.is ∙ ap (λ (x : Core). text_of (machine_report x)) ran.reached;
  good = printed.good;
  lawful = subst (λ (x : Core). IsLawful ran.run.load ran.run.steps x.book.rows) ran.reached ran.after.lawful;
  value = printed.value ∙ ap (λ (x : Core). all_finished x.state) ran.reached;
  ended = printed.law ran.run.load ran.run.steps ran.after;
}

-- what a command does may be said of more
pub does_more : {A : Type 0} (gives more : A → List ℕ → Type 0) (refuses other : ProgramFault → Type 0) (old new : Output) (r : Result A ProgramFault)
    → ((x : A) (text : List ℕ) → gives x text → more x text) → ((e : ProgramFault) → refuses e → other e)
    → Does gives refuses old new r → Does more other old new r
does_more gives more refuses other old new (Ok x) up down h = (h.0, up x h.0 h.1, h.2)
does_more gives more refuses other old new (Err program.Output) up down h = (h.0, (h.1.0, up h.0 h.1.0 h.1.1, h.1.2))
does_more gives more refuses other old new (Err (program.Fault which)) up down h = h
does_more gives more refuses other old new (Err (program.Line found)) up down h = (down (program.Line found) h.0, h.1)
does_more gives more refuses other old new (Err program.Tile) up down h = (down program.Tile h.0, h.1)
does_more gives more refuses other old new (Err (program.Bad line)) up down h = (down (program.Bad line) h.0, h.1)
