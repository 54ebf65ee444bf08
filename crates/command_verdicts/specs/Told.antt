-- What is said of a trace that is judged (this project's own format).
use Rattle.std.specs.Prelude.{ℕ, List, ◌∷◌, ◌++◌, Option, Some, None, Result, Ok, Err, codes, Bool, true, false}
use Rattle.std.specs.Prelude.{decimal, if◌then◌else◌, nat_lt}
use Rattle.model_answer.specs.declared.judged.Obeys.{Obeys}
use Rattle.model_answer.specs.declared.model.AskedModel.{AskedModel}
use Rattle.model_answer.specs.declared.model.AskedModel.TheVariants.{Rules, Rvwmo}
use Rattle.model_answer.specs.declared.model.MemoryModel.{MemoryModel}
use Rattle.model_answer.specs.declared.model.MemoryModel.TheVariants.{Coherent, Fenced, Pso, Tso, Sc}
use Rattle.model_answer.specs.declared.weak.WeakAnswer.{WeakAnswer}
use Rattle.model_answer.specs.Texts.{is_rvwmo_told, is_told}
use Rattle.command_verdicts.specs.declared.model.Modelled.{Modelled}
use Rattle.command_verdicts.specs.declared.model.Modelled.TheVariants.{Obeys as ObeysModels, WithoutFences, Wrong}
use Rattle.command_verdicts.specs.declared.model.Modelled.TheVariants.{OtherShape, OtherOperation}
use Rattle.program_fault.specs.declared.fault.ProgramFault.{ProgramFault}
use Rattle.program_fault.specs.Outcome.{fault_status}
use Rattle.command_verdicts.specs.declared.command.Judged.{Judged}
use Rattle.command_verdicts.specs.declared.command.Judged.TheVariants.{Linearizable}
use Rattle.command_verdicts.specs.declared.command.Judged.TheVariants.{NotLinearizable, NotLinearizableBy, TooMany}
use Rattle.command_verdicts.specs.declared.command.Judged.TheVariants.{TooOpen}
use Rattle.command_verdicts.specs.declared.command.Judged.TheVariants.{NoReport}
use Rattle.command_verdicts.specs.declared.json.Verdict.{Verdict}
use Rattle.command_verdicts.specs.declared.json.Verdict.TheVariants as verdict
use Rattle.command_verdicts.specs.Json.{verdict_of_status}
use Rattle.trace_answer.specs.Texts.{bad_by_text}
use Rattle.trace_answer.specs.declared.unfit.Unfit.{Unfit}
use Rattle.trace_answer.specs.declared.unfit.Unfit.TheVariants.{Memory, Words, Processors, Indexes}
use Rattle.trace_answer.specs.declared.unfit.Unfit.TheVariants.{Operations, Events}

-- why an order has no report; nothing where memory was refused
abbrev pub unfit_text : Unfit → Option (List ℕ)
unfit_text Memory = None
unfit_text Words = Some (codes "no report: more than 65536 words")
unfit_text Processors = Some (codes "no report: a processor above 63")
unfit_text Indexes = Some (codes "no report: a processor with more than 4096 operations")
unfit_text Operations = Some (codes "no report: more than 65536 operations")
unfit_text Events = Some (codes "no report: more than 196608 events")

-- the line of standard error for a verdict, without its line feed; none where an order was printed
abbrev pub verdict_text_of : Judged → ℕ → Option (List ℕ)
verdict_text_of Linearizable bound = None
verdict_text_of (NotLinearizable line) bound =
    Some (codes "not linearizable at line" ++ 32 ∷ decimal line)
verdict_text_of (NotLinearizableBy line why) bound = bad_by_text line why bound
verdict_text_of (TooMany line) bound =
    Some (codes "undecided at line" ++ (32 ∷ decimal line) ++ codes ": more than"
    ++ (32 ∷ decimal bound) ++ codes " configurations")
verdict_text_of (TooOpen line) bound =
    Some (codes "undecided at line" ++ (32 ∷ decimal line)
    ++ codes ": more than 64 operations are open on one word")
verdict_text_of (NoReport why) bound = unfit_text why

-- what was tried where a trace isn't decided with so many configurations of a word
abbrev pub tried_text : ℕ → List ℕ
tried_text bound = if nat_lt bound 1024 then codes ""
    else codes "; zones, a guess, a search depth first and all configurations were tried"

-- the status that the program ends with
abbrev pub judged_status : Result Judged ProgramFault → ℕ
judged_status (Ok Linearizable) = 0
judged_status (Ok (NotLinearizable line)) = 1
judged_status (Ok (NotLinearizableBy line why)) = 1
judged_status (Ok (TooMany line)) = 5
judged_status (Ok (TooOpen line)) = 5
judged_status (Ok (NoReport why)) = 1
judged_status (Err f) = fault_status f

-- whether a model is among those that a log obeys
abbrev pub is_obeyed : Obeys → MemoryModel → Bool
is_obeyed obeys Coherent = obeys.coherent
is_obeyed obeys Fenced = obeys.fenced
is_obeyed obeys Pso = obeys.pso
is_obeyed obeys Tso = obeys.tso
is_obeyed obeys Sc = obeys.sc

-- the status by a model: 0 where a log obeys it, 1 where it doesn't, 5 where neither is told
abbrev pub told_status : Bool → Bool → ℕ
told_status true obeyed = if obeyed then 0 else 1
told_status false obeyed = 5

-- the status by a model of a log that has its fences, or not; RISC-V's model has none where it wasn't
-- asked
abbrev pub rvwmo_status : Bool → Obeys → Option Bool → ℕ
rvwmo_status fences obeys None = 5
rvwmo_status fences obeys (Some obeyed) = told_status (is_rvwmo_told fences obeys obeyed) obeyed

abbrev pub status_by : Bool → Obeys → WeakAnswer → AskedModel → ℕ
status_by fences obeys weak (Rules model) =
    told_status (is_told weak.doubts obeys model) (is_obeyed obeys model)
status_by fences obeys weak Rvwmo = rvwmo_status fences obeys weak.obeyed

-- the status that the program ends with where a log or a report was judged: a report doesn't say
-- where fences stand
abbrev pub modelled_status : Modelled → AskedModel → ℕ
modelled_status (ObeysModels obeys weak) model = status_by true obeys weak model
modelled_status (WithoutFences obeys weak) model = status_by false obeys weak model
modelled_status (Wrong wrong) model = 1
modelled_status (OtherShape line) model = 1
modelled_status (OtherOperation line p passed) model = 1

-- what a trace is judged to be in one word: a fault, where it has an order and the report of that
-- passes a limit
abbrev pub judged_verdict : Judged → Verdict
judged_verdict Linearizable = verdict.Yes
judged_verdict (NotLinearizable line) = verdict.No
judged_verdict (NotLinearizableBy line why) = verdict.No
judged_verdict (TooMany line) = verdict.Undecided
judged_verdict (TooOpen line) = verdict.Undecided
judged_verdict (NoReport why) = verdict.Fault

-- what a log or a report is judged to be by a model in one word: a fault, where a report isn't of
-- its texts
abbrev pub modelled_verdict : Modelled → AskedModel → Verdict
modelled_verdict (ObeysModels obeys weak) model =
    verdict_of_status (modelled_status (ObeysModels obeys weak) model)
modelled_verdict (WithoutFences obeys weak) model =
    verdict_of_status (modelled_status (WithoutFences obeys weak) model)
modelled_verdict (Wrong wrong) model = verdict.No
modelled_verdict (OtherShape line) model = verdict.Fault
modelled_verdict (OtherOperation line p passed) model = verdict.Fault
