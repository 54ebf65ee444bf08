-- What a machine does for a line of a dialogue, and what is answered (this project's own format).
use Rattle.std.specs.Prelude.{◌≡◌, ◌⊎◌, ℕ, nat_lt, Bool, true, false, List, [], ◌∷◌, Option, Some, None, drop, map, slice_get}
use Rattle.std.specs.Bool.{MatchBool}
use Rattle.torus.specs.declared.fault.Fault.{Fault}
use Rattle.torus.specs.declared.fault.Fault.TheVariants as fault
use Rattle.torus.specs.declared.step.Step.{Step}
use Rattle.script_lines.specs.declared.line.Line.{Line}
use Rattle.one_order.specs.declared.answer.Answer.{Answer}
use Rattle.report_lines.specs.Line.{text_of}
use Rattle.report_check.specs.Good.{GoodReport}
use Rattle.machine_report.specs.Report.{machine_report}
use Rattle.core_laws.specs.Core.{Load}
use Rattle.core_laws.specs.Appended.{load_with}
use Rattle.core_laws.specs.Handed.{handed, moves_kept, refused}
use Rattle.torus.specs.declared.step.Stepped.{Stepped}
use Rattle.torus.specs.declared.step.Stepped.TheVariants.{Moved, Idle}
use Rattle.core_laws.specs.Machine.{IsAfter, RunsOn, Steps, all_finished, core_after, shown}
use Rattle.machine_asked.specs.Rounds.{rounds_of, NeedsRounds}
use Rattle.machine_asked.specs.Asked.{Asked, IsNumberedLine, NeedsToWait, answer_to, has_spin, index_asked, spins_with}
use Rattle.machine_asked.specs.Asked.{AreFewestFair, fair_rounds_made, fair_rounds_of}
use Rattle.machine_record.specs.declared.action.Action.TheVariants as action
use Rattle.machine_asked.specs.Opened.{IsOpened}
use Rattle.machine_asked.specs.GoingOn.{GoesOnFrom}
use Rattle.machine_record.specs.Calls.{RecordsAnew}
use Rattle.machine_record.specs.Machine.{KeepsLine, KeepsRecord, KeepsStep, Recorded}
use Rattle.command_live.specs.Records.{IsTheText, LoadsRecord, SavesKept}
use Rattle.command_live.specs.Rows.{rows_text}
use Rattle.command_live.specs.declared.command.Command.{Command}
use Rattle.command_live.specs.declared.command.Command.TheVariants as command
use Rattle.command_live.specs.declared.told.Told.{Told as ToldLine}
use Rattle.command_live.specs.declared.told.Told.TheVariants as reply
use Rattle.command_live.specs.declared.said.Said.{Said}
use Rattle.command_live.specs.declared.said.Said.TheVariants.{Told, Report}

-- processor p is handed a line: the machine stands where its moves lead from the load with the line,
-- and the answer gives the index of the line's operation, where it is known: the operation that p issues
-- under it, whenever it does, is that of the line
pub record TakesLine (p : ℕ) (line : Line) (old new : Asked) (told : ToldLine) : Type 0 where
  pub taken : refused old.core p line ≡ None
  pub state : new.core ≡ handed old.core p line
  pub spins : new.spins ≡ spins_with old.spins p line
  pub guard : new.guard ≡ old.guard
  pub law : (l : Load) (steps : List Step) → IsAfter l old.core steps
      → IsAfter (load_with l p line) new.core (moves_kept l old.core p steps)
  pub answer : told ≡ reply.Asked p (index_asked old p line)
  pub numbered : (index : ℕ) → index_asked old p line ≡ Some index
      → (l : Load) (steps : List Step) → IsAfter l old.core steps
      → old.spins ≡ map has_spin l.scripts → IsNumberedLine (load_with l p line) p line index

-- it refuses the line for this reason, or there is no memory, and stays as it was
pub record RefusesLine (p : ℕ) (line : Line) (old new : Recorded) (told : ToldLine) : Type 0 where
  pub reason : Fault
  pub why : (refused old.asked.core p line ≡ Some reason)
      ⊎ ((refused old.asked.core p line ≡ None) × (reason ≡ fault.Memory))
  pub same : new ≡ old
  pub answer : told ≡ reply.Refused reason

abbrev pub AsksMachine : ℕ → Line → Recorded → Recorded → ToldLine → Type 0
AsksMachine p line old new told =
    (TakesLine p line old.asked new.asked told × KeepsLine p line old new)
    ⊎ RefusesLine p line old new told

-- whether a step moved
abbrev pub is_move : Stepped → Bool
is_move Moved = true
is_move Idle = false

-- the machine attempts a choice of an agent, which does exactly what the choice says, and keeps a move; the
-- answer is whether it moved
pub record MakesStep (attempt : Step) (old new : Recorded) (told : ToldLine) : Type 0 where
  pub stepped : Stepped
  pub step : Steps old.asked.core new.asked.core stepped attempt
  pub runs_on : RunsOn old.asked.core new.asked.core (attempt ∷ [])
  pub spins : new.asked.spins ≡ old.asked.spins
  pub guard : new.asked.guard ≡ old.asked.guard
  pub kept : KeepsStep attempt stepped old new
  pub answer : told ≡ reply.Moved (is_move stepped)

-- the machine makes so many rounds, and the answer is their number
pub record MakesRounds (count : ℕ) (old new : Asked) (told : ToldLine) : Type 0 where
  pub state : new.core ≡ core_after old.core (rounds_of old.core.shape count)
  pub spins : new.spins ≡ old.spins
  pub guard : new.guard ≡ old.guard
  pub runs_on : RunsOn old.core new.core (rounds_of old.core.shape count)
  pub answer : told ≡ reply.Rounds count

-- and keeps them
abbrev pub MakesKeptRounds : ℕ → Recorded → Recorded → ToldLine → Type 0
MakesKeptRounds count old new told =
    MakesRounds count old.asked new.asked told × KeepsRecord (action.Rounds count) old new

-- the machine makes the fewest fair rounds that finish every script, at most so many, and keeps them; the
-- answer is their number
pub record MakesKeptFair (most : ℕ) (old new : Recorded) (told : ToldLine) : Type 0 where
  pub rounds : ℕ
  pub fewest : AreFewestFair old.asked most rounds
  pub made : new.asked ≡ fair_rounds_made old.asked rounds
  pub runs_on : RunsOn old.asked.core new.asked.core (fair_rounds_of old.asked rounds)
  pub kept : KeepsRecord (action.FairRounds rounds) old new
  pub answer : told ≡ reply.Rounds rounds

-- it makes the least number of rounds that finish every script, and keeps them
pub record FinishesScripts (old new : Recorded) (told : ToldLine) : Type 0 where
  pub rounds : ℕ
  pub needed : NeedsRounds old.asked.core rounds
  pub made : MakesRounds rounds old.asked new.asked told
  pub kept : KeepsRecord (action.Rounds rounds) old new

-- the scripts are finished so, and a machine whose opening words are the words then stands in the place of
-- that one; it keeps a record where that one does, in which nothing is done so far. It goes on as if both were
-- one: their operations are served by one memory
pub record GoesOn (between new : Recorded) : Type 0 where
  pub opened : IsOpened between.asked.core.shape between.asked.core.depth between.asked.core.tags
      (shown between.asked.core).memory new.asked
  pub anew : RecordsAnew between.kept new
  pub law : (l k : Load) (steps more : List Step) → IsAfter l between.asked.core steps
      → IsAfter k new.asked.core more → GoesOnFrom l steps k more

pub record Reopens (old new : Recorded) (told : ToldLine) : Type 0 where
  pub between : Recorded
  pub finishes : FinishesScripts old between told
  pub goes_on : GoesOn between new

-- the scripts are finished, and memory was refused for the other machine
pub record FinishesAlone (old new : Recorded) (told : ToldLine) : Type 0 where
  pub rounds : ToldLine
  pub finishes : FinishesScripts old new rounds
  pub answer : told ≡ reply.Refused fault.Memory

abbrev pub ReopensMachine : Recorded → Recorded → ToldLine → Type 0
ReopensMachine old new told = Reopens old new told ⊎ FinishesAlone old new told

-- the answer at the end of a wait: the reply, or that every script is finished without it
abbrev pub told_of_wait : ℕ → ℕ → Option Answer → ToldLine
told_of_wait p index None = reply.Idle
told_of_wait p index (Some answer) = reply.Answered p index answer.reply

-- the machine makes the least number of rounds until the operation of processor p that has this
-- index is answered, or every script is finished, and keeps them
pub record Waits (p index : ℕ) (old new : Recorded) (told : ToldLine) : Type 0 where
  pub rounds : ℕ
  pub needed : NeedsToWait old.asked.core p index rounds
  pub state : new.asked.core ≡ core_after old.asked.core (rounds_of old.asked.core.shape rounds)
  pub spins : new.asked.spins ≡ old.asked.spins
  pub guard : new.asked.guard ≡ old.asked.guard
  pub runs_on : RunsOn old.asked.core new.asked.core (rounds_of old.asked.core.shape rounds)
  pub kept : KeepsRecord (action.Rounds rounds) old new
  pub answer : told ≡ told_of_wait p index (answer_to new.asked.core p index)

-- nothing changes, and the answer says so
abbrev pub TellsDialogue : {T : Type 0} → T → Recorded → Recorded → T → Type 0
TellsDialogue what old new told = (new ≡ old) × (told ≡ what)

-- an operation is waited for that the script of its processor, which makes so many, can make
abbrev pub WaitsWithin : ℕ → ℕ → Option ℕ → Recorded → Recorded → ToldLine → Type 0
WaitsWithin p index None old new told = TellsDialogue (reply.Refused fault.Processor) old new told
WaitsWithin p index (Some most) old new told =
    MatchBool (nat_lt index most) (Waits p index old new told)
    (TellsDialogue (reply.Refused fault.Range) old new told)

abbrev pub WaitsFor : ℕ → ℕ → Recorded → Recorded → ToldLine → Type 0
WaitsFor p index old new told =
    WaitsWithin p index (slice_get old.asked.core.allowed p) old new told

-- the word at an address, where there is one
abbrev pub told_word : ℕ → Option ℕ → ToldLine
told_word address None = reply.Refused fault.Address
told_word address (Some word) = reply.Word address word

-- the answer is the rows of the order of operations, from one on, unless there is no memory
abbrev pub TellsOrder : {A : Type 0} → ℕ → Asked → Said A → Type 0
TellsOrder first v said =
    IsTheText (rows_text (drop first v.core.book.rows)) said
    ⊎ (said ≡ Told (reply.Refused fault.Memory))

-- the answer is the machine's report, a good one, unless there is no memory
pub record TellsReport {A : Type 0} (v : Asked) (said : Said A) : Type 0 where
  pub is : said ≡ Report (machine_report v.core)
  pub good : GoodReport (text_of (machine_report v.core))

abbrev pub Reports : {A : Type 0} → Asked → Said A → Type 0
Reports v said = TellsReport v said ⊎ (said ≡ Told (reply.Refused fault.Memory))

-- the answer is one line, as it says
pub record IsLine {A : Type 0} (is : ToldLine → Type 0) (said : Said A) : Type 0 where
  pub line : ToldLine
  pub said_is : said ≡ Told line
  pub right : is line

-- what a machine does for what a line asks for, which may come with digits, and what is answered
abbrev pub Obeys : {A : Type 0} → Command → List ℕ → Recorded → Recorded → Said A → Type 0
Obeys command.Nothing digits old new said = TellsDialogue (Told reply.Nothing) old new said
Obeys (command.Ask p line) digits old new said = IsLine (AsksMachine p line old new) said
Obeys (command.Step attempt) digits old new said = IsLine (MakesStep attempt old new) said
Obeys (command.Rounds count) digits old new said = IsLine (MakesKeptRounds count old new) said
Obeys (command.Clocked most) digits old new said = IsLine (MakesKeptFair most old new) said
Obeys (command.Wait p index) digits old new said = IsLine (WaitsFor p index old new) said
Obeys command.Finish digits old new said = IsLine (FinishesScripts old new) said
Obeys command.Finished digits old new said =
    TellsDialogue (Told (reply.Finished (all_finished old.asked.core.state))) old new said
Obeys (command.Word address) digits old new said =
    TellsDialogue (Told (told_word address (slice_get (shown old.asked.core).memory address))) old new said
Obeys (command.Order first) digits old new said = (new ≡ old) × TellsOrder first old.asked said
Obeys command.Report digits old new said = (new ≡ old) × Reports old.asked said
Obeys command.Reopen digits old new said = IsLine (ReopensMachine old new) said
Obeys command.Save digits old new said = (new ≡ old) × SavesKept old said
Obeys command.Load digits old new said = IsLine (LoadsRecord digits old new) said
Obeys command.Quit digits old new said = TellsDialogue (Told reply.Nothing) old new said
Obeys (command.Refused reason) digits old new said = TellsDialogue (Told (reply.Refused reason)) old new said
Obeys command.Bad digits old new said = TellsDialogue (Told reply.BadLine) old new said
