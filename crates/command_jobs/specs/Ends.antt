-- What is found of the end of a run, to be told behind its report (this project's own format).
use Rattle.std.specs.Prelude.{ℕ, List, Bool, Option, IfSome, Result}
use Rattle.std.specs.Str.Lines.{lines}
use Rattle.core_laws.specs.Machine.{Core, shown}
use Rattle.machine_core.specs.Loading.{load_by}
use Rattle.program_fault.specs.declared.fault.ProgramFault.{ProgramFault}
use Rattle.program_fault.specs.declared.texts.Texts.{Texts}
use Rattle.program_fault.specs.Done.{Does, Output}
use Rattle.program_fault.specs.Outcome.{IsTextsFault}
use Rattle.sentences.specs.declared.scripts.EndedScripts.{EndedScripts}
use Rattle.sentences.specs.Ended.{IsEndInTextOrder}
use Rattle.command_texts.specs.Ends.{HasEndedRounds, ShowsReached}
use Rattle.command_texts.specs.Run.{HasRun, asked_of}
use Rattle.command_jobs.specs.Jobs.{pace_of}
use Rattle.command_line.specs.declared.command.Job.{Job}
use Rattle.command_line.specs.declared.command.Job.TheVariants.{Steps, Round}

-- what was found is what became of the scripts of a text for the machine of a text, by the answers that
-- a machine shows
abbrev pub HasFound : {A : Type 0} → List ℕ → List ℕ → Core → Option (EndedScripts A) → Type 0
HasFound machine scripts core found =
    IfSome found (IsEndInTextOrder (lines machine) (lines scripts) (shown core).answers)

-- whoever is shown the end of a run saw the machine whose report the output takes: that of the listed
-- steps, or of the rounds
abbrev pub ShowsEnd : Job → Texts → (Core → Type 0) → Output → Output → Result Bool ProgramFault
    → Type 0
ShowsEnd (Steps machine script steps) texts saw old new result = Does
    (ShowsReached (HasRun (asked_of (lines texts.first.items) (lines texts.second.items)
    (lines texts.third.items))) saw)
    (IsTextsFault (asked_of (lines texts.first.items) (lines texts.second.items)
    (lines texts.third.items))) old new result
ShowsEnd (Round machine script rounds pace) texts saw old new result = Does
    (ShowsReached (HasEndedRounds (pace_of pace) (load_by (lines texts.first.items)
    (lines texts.second.items)) rounds) saw)
    (IsTextsFault (load_by (lines texts.first.items) (lines texts.second.items))) old new result
ShowsEnd _ texts saw old new result = Unit {0}
