-- What is told of the fault of a command's texts (this project's own format).
use Rattle.std.specs.Prelude.{◌≡◌, ℕ, List, Option, Some, None, IfSome, option_map}
use Rattle.std.specs.Str.Lines.{lines}
use Rattle.torus.specs.declared.fault.Fault.TheVariants as fault
use Rattle.lexer.specs.declared.named.Named.{Named}
use Rattle.lexer.specs.Named.{IsAbout}
use Rattle.script.specs.Machine.{machine_of, machine_or_why}
use Rattle.report_check.specs.Good.{FirstBad, GoodReport}
use Rattle.report_check.specs.Reason.{HasReason}
use Rattle.program_fault.specs.Origins.{HasOrigin}
use Rattle.program_fault.specs.declared.fault.ProgramFault.{ProgramFault}
use Rattle.program_fault.specs.declared.fault.ProgramFault.TheVariants as program
use Rattle.program_fault.specs.declared.texts.Names.{Names}
use Rattle.program_fault.specs.declared.texts.Texts.{Texts}
use Rattle.sentences.specs.declared.sentence.Sentence.{Sentence}
use Rattle.sentences.specs.Told.{IsAboutText, IsFromScripts, IsFromSteps, TellsReading, TellsTile}
use Rattle.sentences.specs.Told.{TellsWhy, scripts_or_why_of, scripts_read, steps_or_why_of}
use Rattle.sentences.specs.Told.{steps_read}
use Rattle.program_fault.specs.declared.fault_lines.FaultLine.{FaultLine}
use Rattle.program_fault.specs.declared.fault_lines.FaultLine.TheVariants.{Text, Tile, Report}
use Rattle.program_fault.specs.declared.fault_lines.Kind.{Kind}
use Rattle.program_fault.specs.declared.fault_lines.Kind.TheVariants as kind
use Rattle.program_fault.specs.Causes.{cause_of}

-- what is told of a machine text alone
pub record SaysOfMachine (machine : Named) (told : Option Sentence) : Type 0 where
  pub reading : TellsReading (machine_of (lines machine.text.now)) told
  pub why : TellsWhy (machine_or_why (lines machine.text.now)) told
  pub text : IfSome told (IsAboutText machine)

-- what is told of a machine text and a script text
pub record SaysOfScripts (machine scripts : Named) (told : Option Sentence) : Type 0 where
  pub reading :
      TellsReading (scripts_read (lines machine.text.now) (lines scripts.text.now)) told
  pub why : TellsWhy (scripts_or_why_of (lines machine.text.now) (lines scripts.text.now)) told
  pub text : IfSome told (IsFromScripts machine scripts)

-- what is told of a machine text, a script text and a steps text
pub record SaysOfSteps (machine scripts steps : Named) (told : Option Sentence) : Type 0 where
  pub reading : TellsReading (steps_read (lines machine.text.now) (lines scripts.text.now)
      (lines steps.text.now)) told
  pub why : TellsWhy (steps_or_why_of (lines machine.text.now) (lines scripts.text.now)
      (lines steps.text.now)) told
  pub text : IfSome told (IsFromSteps machine scripts steps)

-- what is told of the texts of these names, of which the first is a machine's
abbrev pub SaysUnder : Option (List ℕ) → Option (List ℕ) → Option (List ℕ) → Texts
    → Option Sentence → Type 0
SaysUnder None second third texts told = told ≡ None
SaysUnder (Some m) None third texts told =
    (machine : Named) × IsAbout machine m texts.first.items × SaysOfMachine machine told
SaysUnder (Some m) (Some s) None texts told =
    (machine scripts : Named) × IsAbout machine m texts.first.items
    × IsAbout scripts s texts.second.items × SaysOfScripts machine scripts told
SaysUnder (Some m) (Some s) (Some t) texts told =
    (machine scripts steps : Named) × IsAbout machine m texts.first.items
    × IsAbout scripts s texts.second.items × IsAbout steps t texts.third.items
    × SaysOfSteps machine scripts steps told

-- what is told of the texts of a command: of a report nothing
abbrev pub SaysOfTexts : Kind → Names → Texts → Option Sentence → Type 0
SaysOfTexts kind.Report names texts told = told ≡ None
SaysOfTexts _ names texts told = SaysUnder (option_map (λ n. n.now) names.first)
    (option_map (λ n. n.now) names.second) (option_map (λ n. n.now) names.third) texts told

-- what is told of two tiles, where a route between them is asked
abbrev pub SaysOfTile : Kind → List (List ℕ) → Option FaultLine → Type 0
SaysOfTile (kind.Route src dst) machine None = TellsTile (machine_of machine) src dst None
SaysOfTile (kind.Route src dst) machine (Some (Tile tile)) =
    TellsTile (machine_of machine) src dst (Some tile)
SaysOfTile (kind.Route src dst) machine (Some _) = ⊥
SaysOfTile _ machine told = told ≡ None

-- what is told of the report of a name
abbrev pub SaysOfNamed : Option (List ℕ) → List ℕ → Option FaultLine → Type 0
SaysOfNamed None report told = told ≡ None
SaysOfNamed (Some name) report None = GoodReport report
SaysOfNamed (Some name) report (Some (Report line)) = (line.name.now ≡ name)
    × FirstBad report line.bad.line
    × HasReason report (record { line = line.bad.line; rule = line.bad.reason.rule })
    × HasOrigin line.bad.reason.rule report line.bad.line line.bad.reason.origin
SaysOfNamed (Some name) report (Some _) = ⊥

-- what is told of a report, where the text of a command is one
abbrev pub SaysOfReport : Kind → Names → List ℕ → Option FaultLine → Type 0
SaysOfReport kind.Report names report told =
    SaysOfNamed (option_map (λ n. n.now) names.first) report told
SaysOfReport _ names report told = told ≡ None

-- what is told of texts by the sentence on the first that has a fault
abbrev pub SaysCause : Kind → Names → Texts → ProgramFault → Option FaultLine → Type 0
SaysCause kind names texts fault told = (sentence : Option Sentence)
    × SaysOfTexts kind names texts sentence × (told ≡ option_map Text (cause_of fault sentence))

-- what is told of the fault that a command answers
abbrev pub Says : Kind → Names → Texts → ProgramFault → Option FaultLine → Type 0
Says kind names texts (program.Line found) told =
    SaysCause kind names texts (program.Line found) told
Says kind names texts (program.Fault fault.Memory) told =
    SaysCause kind names texts (program.Fault fault.Memory) told
Says kind names texts (program.Fault _) told = told ≡ None
Says kind names texts program.Output told = told ≡ None
Says kind names texts program.Tile told = SaysOfTile kind (lines texts.first.items) told
Says kind names texts (program.Bad line) told = SaysOfReport kind names texts.first.items told
