-- The jobs whose work stands in `commands`, and what each answers (this project's own format).
use Rattle.std.specs.Prelude.{◌≡◌, Bool, true, false, Result, Ok, Err, IfOk, codes}
use Rattle.std.specs.Str.Lines.{lines}
use Rattle.program_fault.specs.declared.texts.Texts.{Texts}
use Rattle.machine_core.specs.Loading.{load_by}
use Rattle.program_fault.specs.declared.fault.ProgramFault.{ProgramFault}
use Rattle.program_fault.specs.Done.{Output, Does}
use Rattle.fair_rounds.specs.declared.pacing.Pace.{Pace}
use Rattle.fair_rounds.specs.declared.pacing.Pace.TheVariants.{InOrder, Turned, Fair}
use Rattle.command_texts.specs.Run.{PrintsRun, asked_of}
use Rattle.command_texts.specs.Rounds.{PrintsRounds}
use Rattle.command_texts.specs.Done.{PrintsRoute, PrintsChannels, PrintsVerdict}
use Rattle.command_line.specs.declared.pace.AskedPace.{AskedPace}
use Rattle.command_line.specs.declared.pace.AskedPace.TheVariants as asked
use Rattle.command_line.specs.declared.command.Job.{Job}
use Rattle.command_line.specs.declared.command.Job.TheVariants.{Steps, Round, Route}
use Rattle.command_line.specs.declared.command.Job.TheVariants.{Channels, Check}
use Rattle.command_line.specs.Printed.{commands_text}
use Rattle.command_jobs.specs.declared.answering.Ended.{Ended}

-- whether the work of a job stands in `commands`
abbrev pub is_of_commands : Job → Bool
is_of_commands (Steps machine script steps) = true
is_of_commands (Round machine script rounds pace) = true
is_of_commands (Route machine src dst class) = true
is_of_commands (Channels machine) = true
is_of_commands (Check report) = true
is_of_commands _ = false

-- whether every script is finished, where there is no fault
abbrev pub finished_in : Result Ended ProgramFault → Result Bool ProgramFault
finished_in (Ok ended) = Ok ended.finished
finished_in (Err fault) = Err fault

-- the pace of rounds that the words of a command line name
abbrev pub pace_of : AskedPace → Pace
pace_of asked.InOrder = InOrder
pace_of asked.Turned = Turned
pace_of (asked.Fair most) = Fair most

-- that a job without scripts is done, where there is no fault
abbrev pub done_in : Result Ended ProgramFault → Result (Unit {0}) ProgramFault
done_in (Ok ended) = Ok tt
done_in (Err fault) = Err fault

-- a job without scripts has none that isn't finished
abbrev pub IsFinishedJob : Result Ended ProgramFault → Type 0
IsFinishedJob result = IfOk result (λ ended. ended.finished ≡ true)

-- The output takes, and the job answers, what the command does that it names: over its texts in the
-- order of its words, and with its numbers.
abbrev pub AnswersJob : Job → Texts → Output → Output → Result Ended ProgramFault → Type 0
AnswersJob (Steps machine script steps) texts old new result = PrintsRun
    (asked_of (lines texts.first.items) (lines texts.second.items) (lines texts.third.items))
    old new (finished_in result)
AnswersJob (Round machine script rounds pace) texts old new result = PrintsRounds (pace_of pace)
    (load_by (lines texts.first.items) (lines texts.second.items)) rounds old new
    (finished_in result)
AnswersJob (Route machine src dst class) texts old new result =
    PrintsRoute (lines texts.first.items) src dst class old new (done_in result)
    × IsFinishedJob result
AnswersJob (Channels machine) texts old new result =
    PrintsChannels (lines texts.first.items) old new (done_in result) × IsFinishedJob result
AnswersJob (Check report) texts old new result =
    PrintsVerdict texts.first.items old new (done_in result) × IsFinishedJob result
AnswersJob _ texts old new result = Unit {0}

-- the version of the program was printed
abbrev pub PrintsVersion : {A : Type 0} → Output → Output → Result A ProgramFault → Type 0
PrintsVersion = Does (λ done text. text ≡ codes "torusmem 0.3.0\n") (λ fault. ⊥)

-- the table of the commands was printed
abbrev pub PrintsCommands : {A : Type 0} → Output → Output → Result A ProgramFault → Type 0
PrintsCommands = Does (λ done text. text ≡ commands_text) (λ fault. ⊥)
