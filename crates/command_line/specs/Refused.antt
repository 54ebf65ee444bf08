-- Why the words of a command line name no job (this project's own format).
use Rattle.std.specs.Prelude.{◌≡◌, ◌≢◌, ◌⊎◌, true, false, List, [], ◌∷◌, Option, Some, None, Contains}
use Rattle.std.specs.Prelude.{IfSome, IsSomeAnd, Result, Ok, Err, codes, is_some}
use Rattle.clap.specs.Words.{HasKind, Row, Text, all_of, fault_of, first_of}
use Rattle.command_line.specs.declared.refused.Misuse.{Misuse}
use Rattle.command_line.specs.declared.refused.Misuse.TheVariants.{RunAndReplay, DepthAlone}
use Rattle.command_line.specs.declared.refused.Misuse.TheVariants.{NamesOfMoves}
use Rattle.command_line.specs.declared.refused.Misuse.TheVariants.{TextsAndValues, NodesAlone}
use Rattle.command_line.specs.declared.refused.Misuse.TheVariants.{ArbiterAlone, GuardByTurn}
use Rattle.command_line.specs.declared.refused.Misuse.TheVariants.{OtherArbiter, ReportAndSmallest}
use Rattle.command_line.specs.declared.refused.Misuse.TheVariants.{SmallestAndJson, SmallestAlone}
use Rattle.command_line.specs.declared.refused.NoJob.{NoJob}
use Rattle.command_line.specs.declared.refused.NoJob.TheVariants.{Options, Missing}
use Rattle.command_line.specs.declared.refused.NoRequest.{NoRequest}
use Rattle.command_line.specs.declared.refused.NoRequest.TheVariants.{Parser, Values}
use Rattle.command_line.specs.declared.pace.AskedPace.{AskedPace}
use Rattle.command_line.specs.declared.command.Job.{Job}
use Rattle.command_line.specs.declared.words.WordKind.TheVariants.{Flag, Long}
use Rattle.command_line.specs.CommandLine.{name_by, rows_by, torusmem_app}
use Rattle.command_line.specs.Job.{IsFlag, IsGiven, IsPace, NamesJob, number_in}
use Rattle.command_line.specs.Values.{IsNoCommand, IsOfKind, IsOfKindIfGiven, Lacks}

-- the subcommands whose options are misused so
abbrev pub misused : Misuse → List Text
misused RunAndReplay = codes "network" ∷ []
misused DepthAlone = codes "network" ∷ []
misused NamesOfMoves = codes "network" ∷ []
misused ReportAndSmallest = codes "linearize" ∷ []
misused SmallestAndJson = codes "linearize" ∷ []
misused TextsAndValues = codes "model" ∷ []
misused NodesAlone = codes "model" ∷ []
misused SmallestAlone = codes "model" ∷ []
misused ArbiterAlone = codes "round" ∷ codes "schedule" ∷ []
misused GuardByTurn = codes "round" ∷ codes "schedule" ∷ []
misused OtherArbiter = codes "round" ∷ codes "schedule" ∷ []

-- options are misused so: a run and a replay are both asked for; or a depth is given, and neither is;
-- or names are asked for, and so is either; or a report and a small part are; or a small part
-- and an object are; or texts are given where replies alone count; or a number of nodes is
-- given where they don't; or a small part of a log is asked for, and replies alone, texts, an order or
-- an object too; or an arbiter or a guard is given, and rounds are in order; or a guard is, and puts go
-- by turns; or the arbiter is another than those of machines
abbrev pub IsMisuse : Misuse → List Row → Type 0
IsMisuse RunAndReplay rows = IsFlag (codes "run") true rows
    × (is_some (first_of (codes "replay") rows) ≡ true)
IsMisuse DepthAlone rows = IsFlag (codes "run") false rows
    × (first_of (codes "replay") rows ≡ None) × (is_some (number_in (codes "depth") rows) ≡ true)
IsMisuse NamesOfMoves rows = IsFlag (codes "names") true rows
    × (IsFlag (codes "run") true rows ⊎ (is_some (first_of (codes "replay") rows) ≡ true))
IsMisuse ReportAndSmallest rows = IsFlag (codes "report") true rows
    × IsFlag (codes "smallest") true rows
IsMisuse SmallestAndJson rows = IsFlag (codes "smallest") true rows
    × IsGiven (codes "json") true rows
IsMisuse TextsAndValues rows = IsFlag (codes "values") true rows
    × (is_some (all_of (codes "texts") rows) ≡ true)
IsMisuse NodesAlone rows = IsFlag (codes "values") false rows
    × (is_some (number_in (codes "nodes") rows) ≡ true)
IsMisuse SmallestAlone rows = IsFlag (codes "smallest") true rows
    × ((IsFlag (codes "values") true rows ⊎ (is_some (all_of (codes "texts") rows) ≡ true))
    ⊎ (IsFlag (codes "order") true rows ⊎ IsGiven (codes "json") true rows))
IsMisuse ArbiterAlone rows = IsFlag (codes "clocked") false rows
    × ((is_some (first_of (codes "arbiter") rows) ≡ true)
    ⊎ (is_some (number_in (codes "guard") rows) ≡ true))
IsMisuse GuardByTurn rows = IsFlag (codes "clocked") true rows
    × (first_of (codes "arbiter") rows ≡ Some (codes "turn"))
    × (is_some (number_in (codes "guard") rows) ≡ true)
IsMisuse OtherArbiter rows = IsFlag (codes "clocked") true rows
    × (is_some (first_of (codes "arbiter") rows) ≡ true)
    × (first_of (codes "arbiter") rows ≢ Some (codes "oldest"))
    × (first_of (codes "arbiter") rows ≢ Some (codes "turn"))

-- how the rounds of these values are made, or a misuse of the options on them; nothing, where the flag
-- or the number of a guard hasn't the value that it has to have
abbrev pub AnswersPace : List Row → Option (Result AskedPace Misuse) → Type 0
AnswersPace rows (Some (Ok pace)) = IsPace pace rows
AnswersPace rows (Some (Err misuse)) = Contains (misused misuse) (codes "round")
    × Contains (misused misuse) (codes "schedule") × IsMisuse misuse rows
AnswersPace rows None =
    IsOfKind Flag (codes "clocked") rows × IsOfKindIfGiven Long (codes "guard") rows → ⊥

-- what the command of this name answers with these values: a job that they name, a misuse of its
-- options, or nothing, where a value lacks
abbrev pub AnswersBy : Text → List Row → Option (Result Job Misuse) → Type 0
AnswersBy name rows (Some (Ok job)) = NamesJob name rows job
AnswersBy name rows (Some (Err misuse)) = Contains (misused misuse) name × IsMisuse misuse rows
AnswersBy name rows None = Lacks name rows

-- a value lacks that the command of this name has to have; or no command has it
abbrev pub NamesNothing : Option Text → List Row → Type 0
NamesNothing None rows = Unit {0}
NamesNothing (Some name) rows = Lacks name rows ⊎ IsNoCommand name

-- what is wrong with the options of the subcommand of this name, or that a value lacks, is so
abbrev pub TellsNoJob : Option Text → Option (List Row) → NoJob → Type 0
TellsNoJob name rows (Options misuse) = IsSomeAnd name (Contains (misused misuse))
    × IfSome rows (IsMisuse misuse)
TellsNoJob name rows Missing = IfSome rows (NamesNothing name)

-- an error of the parser is one that it has at these words, or memory ran out; and where the parser
-- finds no fault, what is wrong with the values of a subcommand is so
abbrev pub TellsNoRequest : List Text → NoRequest → Type 0
TellsNoRequest words (Parser error) = HasKind (fault_of torusmem_app words) error
TellsNoRequest words (Values why) = (fault_of torusmem_app words ≡ [])
    × TellsNoJob (name_by words) (rows_by words) why

-- the sentence that says so
abbrev pub misuse_text : Misuse → Text
misuse_text RunAndReplay = codes "network takes --run or --replay, not both"
misuse_text DepthAlone =
    codes "--depth goes with --run or --replay: a verdict is that of every depth"
misuse_text NamesOfMoves =
    codes "--names goes with neither --run nor --replay: it is of a verdict"
misuse_text ReportAndSmallest = codes "linearize takes --report or --smallest, not both"
misuse_text SmallestAndJson =
    codes "--smallest prints a trace text: it does not go with --json"
misuse_text TextsAndValues = codes "model takes --texts or --values, not both"
misuse_text NodesAlone = codes "--nodes goes with --values: without it nothing is searched"
misuse_text SmallestAlone =
    codes "--smallest of a log goes with --model alone: it prints a log text"
misuse_text ArbiterAlone =
    codes "--arbiter and --guard go with --clocked: rounds in order have no arbiter"
misuse_text GuardByTurn = codes "--guard goes with the arbiter oldest, not with turn"
misuse_text OtherArbiter = codes "--arbiter of a machine is oldest or turn"
