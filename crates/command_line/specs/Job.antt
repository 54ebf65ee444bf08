-- What a job says of the values that the words of its subcommand give (this project's own format).
use Rattle.std.specs.Prelude.{◌≡◌, ℕ, ◌≤◌, Bool, true, false, List, [], ◌∷◌, Option, Some, None, IfSome, codes, option_map}
use Rattle.std.specs.Option.{unwrap_or}
use Rattle.std.specs.Str.Parse.{digits_value, without_leading_plus}
use Rattle.clap.specs.Words.{Row, Text, all_of, first_of, one_of}
use Rattle.torus.specs.declared.shape.Class.{Class}
use Rattle.torus.specs.declared.shape.Class.TheVariants.{Request, Reply}
use Rattle.command_line.specs.declared.pace.AskedPace.{AskedPace}
use Rattle.command_line.specs.declared.pace.AskedPace.TheVariants.{InOrder, Turned, Fair}
use Rattle.command_line.specs.declared.command.Job.{Job}
use Rattle.command_line.specs.declared.command.Job.TheVariants.{Steps, Round, Run, Live, Route}
use Rattle.command_line.specs.declared.command.Job.TheVariants.{Channels, Check}
use Rattle.command_line.specs.declared.command.Job.TheVariants.{Network, LockUp, Replay, Simulate}
use Rattle.command_line.specs.declared.command.Job.TheVariants.{Linearize, Report, Smallest, Watch, Model}
use Rattle.command_line.specs.declared.command.Job.TheVariants.{RunModel, ValueModel, SmallestModel}
use Rattle.command_line.specs.declared.command.Job.TheVariants.{Schedule, Draw, Moves, Outcomes, Reach}

-- the values of a subcommand's arguments
abbrev pub rows_in : Option (Text × List Row) → Option (List Row)
rows_in = option_map (λ found. found.1)

-- the number that is written for an argument
abbrev pub number_in : Text → List Row → Option ℕ
number_in id rows = option_map (λ text. digits_value 10 (without_leading_plus text))
    (one_of id rows)

-- how `clap` writes whether a flag is given
abbrev pub flag_text : Bool → Text
flag_text true = codes "true"
flag_text false = codes "false"

-- what `clap` writes for the flag `--reply` of a route: "true" for the class of replies
abbrev pub class_word : Class → Text
class_word Request = flag_text false
class_word Reply = flag_text true

-- the subcommand of a job: `steps` both of the report of a run, and of its moves; `linearize` of the
-- lines of an order, of its report, and of a small part without one; `network` of a verdict, a run
-- and a replay; `model` of a log or report, of a report with the texts of its run, of a log by its
-- replies alone, and of a small part of a log
abbrev pub name_of : Job → Text
name_of (Steps machine script steps) = codes "steps"
name_of (Round machine script rounds pace) = codes "round"
name_of (Run machine script workers turns) = codes "run"
name_of (Live machine) = codes "live"
name_of (Route machine src dst class) = codes "route"
name_of (Channels machine) = codes "channels"
name_of (Check report) = codes "check"
name_of (Network network names) = codes "network"
name_of (LockUp network depth) = codes "network"
name_of (Replay network run depth) = codes "network"
name_of (Simulate network traffic depth arbiter) = codes "simulate"
name_of (Linearize trace configurations seconds) = codes "linearize"
name_of (Report trace configurations seconds) = codes "linearize"
name_of (Smallest trace configurations seconds) = codes "linearize"
name_of (Watch trace configurations) = codes "watch"
name_of (Model log model order) = codes "model"
name_of (RunModel log model order machine script) = codes "model"
name_of (ValueModel log model order nodes) = codes "model"
name_of (SmallestModel log model) = codes "model"
name_of (Schedule machine script rounds pace) = codes "schedule"
name_of (Draw machine script seed steps) = codes "draw"
name_of (Moves machine script steps) = codes "steps"
name_of (Outcomes machine script states run) = codes "outcomes"
name_of (Reach machine script answer states) = codes "reach"

-- the depth of a run: the number that is written for it, or 1 where there is none
abbrev pub depth_in : List Row → ℕ
depth_in rows = unwrap_or (number_in (codes "depth") rows) 1

-- the most nodes of a model: the number that is written for it, or 10000 where there is none
abbrev pub nodes_in : List Row → ℕ
nodes_in rows = unwrap_or (number_in (codes "nodes") rows) 10000

-- whether the flag of this name is given
abbrev pub IsFlag : Text → Bool → List Row → Type 0
IsFlag id given rows = one_of id rows ≡ Some (flag_text given)

-- whether the flag of this name is given, and not where the subcommand has none
abbrev pub IsGiven : Text → Bool → List Row → Type 0
IsGiven id true rows = one_of id rows ≡ Some (flag_text true)
IsGiven id false rows = one_of id rows ≡ Some (flag_text true) → ⊥

-- how rounds are made: in order, where nothing is said of clocked ones; clocked by turns, where the arbiter
-- is `turn`; or clocked with a guard, where it is `oldest` or isn't given
abbrev pub IsPace : AskedPace → List Row → Type 0
IsPace InOrder rows = IsFlag (codes "clocked") false rows
    × (first_of (codes "arbiter") rows ≡ None) × (number_in (codes "guard") rows ≡ None)
IsPace Turned rows = IsFlag (codes "clocked") true rows
    × (first_of (codes "arbiter") rows ≡ Some (codes "turn"))
    × (number_in (codes "guard") rows ≡ None)
IsPace (Fair guard) rows = IsFlag (codes "clocked") true rows
    × IfSome (first_of (codes "arbiter") rows) (λ name. name ≡ codes "oldest")
    × (number_in (codes "guard") rows ≡ guard)

-- the values are those of the job: words as they are given, and the numbers that are written
abbrev pub AreOfJob : Job → List Row → Type 0
AreOfJob (Steps machine script steps) rows = (first_of (codes "MACHINE") rows ≡ Some machine.now)
    × (first_of (codes "SCRIPT") rows ≡ Some script.now)
    × (first_of (codes "STEPS") rows ≡ Some steps.now)
    × IsFlag (codes "moves") false rows
AreOfJob (Round machine script rounds pace) rows =
    (first_of (codes "MACHINE") rows ≡ Some machine.now)
    × (first_of (codes "SCRIPT") rows ≡ Some script.now)
    × (number_in (codes "rounds") rows ≡ Some rounds)
    × IsPace pace rows
AreOfJob (Run machine script workers turns) rows = (first_of (codes "MACHINE") rows ≡ Some machine.now)
    × (first_of (codes "SCRIPT") rows ≡ Some script.now)
    × (number_in (codes "workers") rows ≡ Some workers)
    × (number_in (codes "turns") rows ≡ Some turns)
AreOfJob (Live machine) rows = first_of (codes "MACHINE") rows ≡ Some machine.now
AreOfJob (Route machine src dst class) rows = (first_of (codes "MACHINE") rows ≡ Some machine.now)
    × (number_in (codes "SRC") rows ≡ Some src) × (number_in (codes "DST") rows ≡ Some dst)
    × (one_of (codes "reply") rows ≡ Some (class_word class))
AreOfJob (Channels machine) rows = first_of (codes "MACHINE") rows ≡ Some machine.now
AreOfJob (Check report) rows = first_of (codes "REPORT") rows ≡ Some report.now
AreOfJob (Network network names) rows = (first_of (codes "NETWORK") rows ≡ Some network.now)
    × IsFlag (codes "run") false rows × (first_of (codes "replay") rows ≡ None)
    × (number_in (codes "depth") rows ≡ None) × IsFlag (codes "names") names rows
AreOfJob (LockUp network depth) rows = (first_of (codes "NETWORK") rows ≡ Some network.now)
    × IsFlag (codes "run") true rows × (first_of (codes "replay") rows ≡ None)
    × (depth_in rows ≡ depth) × IsFlag (codes "names") false rows
AreOfJob (Replay network run depth) rows = (first_of (codes "NETWORK") rows ≡ Some network.now)
    × IsFlag (codes "run") false rows × (first_of (codes "replay") rows ≡ Some run.now)
    × (depth_in rows ≡ depth) × IsFlag (codes "names") false rows
AreOfJob (Simulate network traffic depth arbiter) rows =
    (first_of (codes "NETWORK") rows ≡ Some network.now)
    × (first_of (codes "TRAFFIC") rows ≡ Some traffic.now)
    × (number_in (codes "depth") rows ≡ Some depth)
    × (first_of (codes "arbiter") rows ≡ Some arbiter.now)
AreOfJob (Linearize trace configurations seconds) rows =
    (first_of (codes "TRACE") rows ≡ Some trace.now)
    × (number_in (codes "configurations") rows ≡ Some configurations)
    × (number_in (codes "seconds") rows ≡ seconds)
    × IsFlag (codes "report") false rows × IsFlag (codes "smallest") false rows
AreOfJob (Report trace configurations seconds) rows =
    (first_of (codes "TRACE") rows ≡ Some trace.now)
    × (number_in (codes "configurations") rows ≡ Some configurations)
    × (number_in (codes "seconds") rows ≡ seconds)
    × IsFlag (codes "report") true rows × IsFlag (codes "smallest") false rows
AreOfJob (Smallest trace configurations seconds) rows =
    (first_of (codes "TRACE") rows ≡ Some trace.now)
    × (number_in (codes "configurations") rows ≡ Some configurations)
    × (number_in (codes "seconds") rows ≡ seconds)
    × IsFlag (codes "report") false rows × IsFlag (codes "smallest") true rows
    × IsGiven (codes "json") false rows
AreOfJob (Watch trace configurations) rows = (first_of (codes "TRACE") rows ≡ Some trace.now)
    × (number_in (codes "configurations") rows ≡ Some configurations)
AreOfJob (Model log model order) rows = (first_of (codes "LOG") rows ≡ Some log.now)
    × (first_of (codes "model") rows ≡ Some model.now)
    × IsFlag (codes "order") order rows × (all_of (codes "texts") rows ≡ None)
    × IsFlag (codes "values") false rows × (number_in (codes "nodes") rows ≡ None)
    × IsFlag (codes "smallest") false rows
AreOfJob (RunModel log model order machine script) rows =
    (first_of (codes "LOG") rows ≡ Some log.now)
    × (first_of (codes "model") rows ≡ Some model.now)
    × IsFlag (codes "order") order rows
    × (all_of (codes "texts") rows ≡ Some (machine.now ∷ script.now ∷ []))
    × IsFlag (codes "values") false rows × (number_in (codes "nodes") rows ≡ None)
    × IsFlag (codes "smallest") false rows
AreOfJob (ValueModel log model order nodes) rows = (first_of (codes "LOG") rows ≡ Some log.now)
    × (first_of (codes "model") rows ≡ Some model.now)
    × IsFlag (codes "order") order rows × (all_of (codes "texts") rows ≡ None)
    × IsFlag (codes "values") true rows × (nodes_in rows ≡ nodes)
    × IsFlag (codes "smallest") false rows
AreOfJob (SmallestModel log model) rows = (first_of (codes "LOG") rows ≡ Some log.now)
    × (first_of (codes "model") rows ≡ Some model.now)
    × IsFlag (codes "order") false rows × (all_of (codes "texts") rows ≡ None)
    × IsFlag (codes "values") false rows × (number_in (codes "nodes") rows ≡ None)
    × IsFlag (codes "smallest") true rows × IsGiven (codes "json") false rows
AreOfJob (Schedule machine script rounds pace) rows =
    (first_of (codes "MACHINE") rows ≡ Some machine.now)
    × (first_of (codes "SCRIPT") rows ≡ Some script.now)
    × (number_in (codes "rounds") rows ≡ Some rounds)
    × IsPace pace rows
AreOfJob (Draw machine script seed steps) rows = (first_of (codes "MACHINE") rows ≡ Some machine.now)
    × (first_of (codes "SCRIPT") rows ≡ Some script.now)
    × (number_in (codes "seed") rows ≡ Some seed) × (number_in (codes "steps") rows ≡ steps)
AreOfJob (Moves machine script steps) rows = (first_of (codes "MACHINE") rows ≡ Some machine.now)
    × (first_of (codes "SCRIPT") rows ≡ Some script.now)
    × (first_of (codes "STEPS") rows ≡ Some steps.now)
    × IsFlag (codes "moves") true rows
AreOfJob (Outcomes machine script states run) rows =
    (first_of (codes "MACHINE") rows ≡ Some machine.now)
    × (first_of (codes "SCRIPT") rows ≡ Some script.now)
    × (number_in (codes "states") rows ≡ Some states) × (number_in (codes "run") rows ≡ run)
AreOfJob (Reach machine script answer states) rows =
    (first_of (codes "MACHINE") rows ≡ Some machine.now)
    × (first_of (codes "SCRIPT") rows ≡ Some script.now)
    × (first_of (codes "answer") rows ≡ Some answer.now)
    × (number_in (codes "states") rows ≡ Some states)

-- the numbers of a job are within their limits: 1 to 1000000 rounds, 1 to 16 workers, 1 to
-- 1000000000 turns, a depth of 1 to 8, at least one configuration or node, 1 to 10000000 states
abbrev pub AreJobLimits : Job → Type 0
AreJobLimits (Round machine script rounds pace) = (1 ≤ rounds) × (rounds ≤ 1000000)
AreJobLimits (Run machine script workers turns) =
    ((1 ≤ workers) × (workers ≤ 16)) × ((1 ≤ turns) × (turns ≤ 1000000000))
AreJobLimits (LockUp network depth) = (1 ≤ depth) × (depth ≤ 8)
AreJobLimits (Replay network run depth) = (1 ≤ depth) × (depth ≤ 8)
AreJobLimits (Simulate network traffic depth arbiter) = (1 ≤ depth) × (depth ≤ 8)
AreJobLimits (Linearize trace configurations seconds) = 1 ≤ configurations
AreJobLimits (Report trace configurations seconds) = 1 ≤ configurations
AreJobLimits (Smallest trace configurations seconds) = 1 ≤ configurations
AreJobLimits (Watch trace configurations) = 1 ≤ configurations
AreJobLimits (ValueModel log model order nodes) = 1 ≤ nodes
AreJobLimits (Schedule machine script rounds pace) = (1 ≤ rounds) × (rounds ≤ 1000000)
AreJobLimits (Outcomes machine script states run) = (1 ≤ states) × (states ≤ 10000000)
AreJobLimits (Reach machine script answer states) = (1 ≤ states) × (states ≤ 10000000)
AreJobLimits _ = Unit {0}

-- a job of the subcommand of this name, with the values of these rows, within its limits
abbrev pub NamesJob : Text → List Row → Job → Type 0
NamesJob name rows job = (name_of job ≡ name) × AreOfJob job rows × AreJobLimits job
