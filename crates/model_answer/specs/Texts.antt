-- What is printed of the models that a log obeys (this project's own format).
use Rattle.std.specs.Prelude.{ℕ, ◌==◌, ◌||◌, Bool, true, false, not, if◌then◌else◌, List, [], ◌∷◌, ◌++◌}
use Rattle.std.specs.Prelude.{Option, Some, None, codes, decimal, length, nat_lt, slice_index_or}
use Rattle.std.specs.List.{flat_map, range_with_len}
use Rattle.packet.specs.declared.kinds.Operation.{Operation as Asked}
use Rattle.packet.specs.Kinds.{code_of}
use Rattle.packet.specs.Names.{code_word}
use Rattle.packet.specs.Spelling.{values_of_op}
use Rattle.memory_models.specs.declared.kinds.Kind.{Kind}
use Rattle.memory_models.specs.declared.kinds.Kind.TheVariants as kind
use Rattle.memory_models.specs.declared.kinds.Operation.{Operation}
use Rattle.memory_models.specs.declared.kinds.Step.{Step}
use Rattle.memory_models.specs.declared.kinds.Why.{Why}
use Rattle.memory_models.specs.declared.kinds.Why.TheVariants as why
use Rattle.memory_models.specs.Trace.{operation_at}
use Rattle.memory_models.specs.Verdict.{step_at}
use Rattle.model_text.specs.declared.logged.Logged.{Logged}
use Rattle.model_text.specs.Finals.{is_final}
use Rattle.model_text.specs.Traces.{logged_at, place_in}
use Rattle.weak_models.specs.declared.verdict.PreservedRule.{PreservedRule}
use Rattle.weak_models.specs.declared.verdict.PreservedRule.TheVariants as by
use Rattle.weak_models.specs.declared.verdict.Reason.{Reason}
use Rattle.weak_models.specs.declared.verdict.Reason.TheVariants as weak
use Rattle.weak_models.specs.declared.verdict.ReasonedStep.{ReasonedStep}
use Rattle.weak_models.specs.Arcs.{reasoned_at}
use Rattle.model_answer.specs.declared.judged.Obeys.{Obeys}
use Rattle.model_answer.specs.declared.weak.Doubts.{Doubts}
use Rattle.model_answer.specs.declared.weak.WeakAnswer.{WeakAnswer}
use Rattle.model_answer.specs.declared.model.MemoryModel.{MemoryModel}
use Rattle.model_answer.specs.declared.model.MemoryModel.TheVariants.{Coherent, Fenced, Pso, Tso, Sc}
use Rattle.model_answer.specs.Model.{model_word}

-- the line of a model
abbrev pub model_line : MemoryModel → Bool → List ℕ
model_line model true = model_word model ++ codes " yes\n"
model_line model false = model_word model ++ codes " no\n"

-- whether there is a yes or a no of a model by rules. What is left out may turn a yes into a no, but
-- not where the log is sequentially consistent; what counts as too strong may turn a no into a yes,
-- but not where the log isn't coherent
abbrev pub is_certain : Doubts → Obeys → Bool → Bool
is_certain doubts o true = not doubts.more || o.sc
is_certain doubts o false = not doubts.less || not o.coherent

abbrev pub is_told : Doubts → Obeys → MemoryModel → Bool
is_told doubts o Coherent = true
is_told doubts o Fenced = is_certain doubts o o.fenced
is_told doubts o Pso = is_certain doubts o o.pso
is_told doubts o Tso = is_certain doubts o o.tso
is_told doubts o Sc = true

-- why there is neither
abbrev pub untold_text : Bool → List ℕ
untold_text true = codes " not told: the log has annotations or weaker fences\n"
untold_text false = codes " not told: a report has no fences\n"

-- the line of a model, with a yes or a no or neither
abbrev pub told_line : Bool → MemoryModel → Bool → Bool → List ℕ
told_line fences model true obeyed = model_line model obeyed
told_line fences model false obeyed = model_word model ++ untold_text fences

-- that of RISC-V's model, where it is asked; a fence that a report leaves out may turn a yes into a no
abbrev pub rvwmo_line : Bool → Bool → List ℕ
rvwmo_line true true = codes "rvwmo yes\n"
rvwmo_line true false = codes "rvwmo no\n"
rvwmo_line false obeyed = codes "rvwmo" ++ untold_text false

abbrev pub is_rvwmo_told : Bool → Obeys → Bool → Bool
is_rvwmo_told fences o obeyed = (fences || o.sc) || not obeyed

abbrev pub rvwmo_text : Bool → Obeys → Option Bool → List ℕ
rvwmo_text fences o None = []
rvwmo_text fences o (Some obeyed) = rvwmo_line (is_rvwmo_told fences o obeyed) obeyed

-- the lines of the models, weakest first; RISC-V's behind `fenced`
abbrev pub obeys_text : Bool → Obeys → WeakAnswer → List ℕ
obeys_text fences o w = model_line Coherent o.coherent
    ++ told_line fences Fenced (is_told w.doubts o Fenced) o.fenced
    ++ rvwmo_text fences o w.obeyed
    ++ told_line fences Pso (is_told w.doubts o Pso) o.pso
    ++ told_line fences Tso (is_told w.doubts o Tso) o.tso ++ model_line Sc o.sc

-- some values, each behind a space
abbrev pub values_text : List ℕ → List ℕ
values_text [] = []
values_text (v ∷ vs) = (codes " " ++ decimal v) ++ values_text vs

-- an operation, its address and its values
abbrev pub operation_text : Asked → List ℕ
operation_text o = code_word (code_of o.op) ++ (codes " " ++ decimal o.address)
    ++ values_text (values_of_op o.op)

abbrev pub fence_or_operation : Option Asked → List ℕ
fence_or_operation None = codes "fence"
fence_or_operation (Some o) = operation_text o

-- where an operation stands: the line that made it and its processor; or it is an opening store
abbrev pub step_front : Logged → List ℕ
step_front l = if l.line == 0 then codes "opening: "
    else codes "line " ++ decimal l.line ++ codes ": " ++ decimal l.processor ++ codes " "

-- the line of an operation
abbrev pub step_text : Logged → List ℕ
step_text l = step_front l ++ fence_or_operation l.operation ++ codes "\n"

-- why one operation comes before the next. What is overwritten is the first one's write, or what it
-- read
abbrev pub reason_text : Why → Kind → List ℕ
reason_text why.Program k = codes "  before, in program order\n"
reason_text why.Read k = codes "  was read by\n"
reason_text why.Overwritten kind.Load = codes "  read a word that was overwritten by\n"
reason_text why.Overwritten _ = codes "  was overwritten by\n"
reason_text why.Stale k = codes "  was missed by the later load\n"

-- the reason at a place of a list
abbrev pub why_at : List Why → ℕ → Why
why_at whys k = slice_index_or whys k why.Program

-- the lines of a step: of its first operation, and of the reason
abbrev pub arc_text : List Logged → List Operation → List Step → List Why → ℕ → List ℕ
arc_text logged ops steps whys k =
    step_text (logged_at logged (step_at steps k).from)
    ++ reason_text (why_at whys k) (operation_at ops (step_at steps k).from).kind

-- the lines of a cycle: those of its steps, and of its first operation once more
abbrev pub cycle_text : List Logged → List Operation → List Step → List Why → List ℕ
cycle_text logged ops steps whys =
    flat_map (arc_text logged ops steps whys) (range_with_len 0 (length steps))
    ++ step_text (logged_at logged (step_at steps 0).from)

-- the rule of preserved program order by which one operation comes before the next, with the manual's
-- number
abbrev pub rule_text : PreservedRule → List ℕ
rule_text by.SameWordStore = codes "  before, by rule 1: a store on the same word\n"
rule_text by.DifferentReads =
    codes "  before, by rule 2: loads on one word that read different writes\n"
rule_text by.AtomicSource =
    codes "  before, by rule 3: a load of what an atomic or a conditional store wrote\n"
rule_text by.Fenced = codes "  before, by rule 4: a fence between them\n"
rule_text by.Acquire = codes "  before, by rule 5: an acquire\n"
rule_text by.Release = codes "  before, by rule 6: a release\n"
rule_text by.BothRcsc = codes "  before, by rule 7: RCsc annotations on both\n"
rule_text by.Paired = codes "  before, by rule 8: a load reserved and its conditional store\n"
rule_text by.AddressDependency = codes "  before, by rule 9: an address dependency\n"
rule_text by.DataDependency = codes "  before, by rule 10: a data dependency\n"
rule_text by.ControlDependency = codes "  before, by rule 11: a control dependency of a store\n"
rule_text by.ThroughStore = codes "  before, by rule 12: a load of what a dependent store wrote\n"
rule_text by.BehindAddress = codes "  before, by rule 13: a store behind an address dependency\n"

-- why one operation comes before the next by RISC-V's model
abbrev pub weak_reason_text : Reason → Kind → List ℕ
weak_reason_text (weak.Preserved rule) k = rule_text rule
weak_reason_text weak.Read k = reason_text why.Read k
weak_reason_text weak.Overwritten k = reason_text why.Overwritten k
weak_reason_text weak.Stale k = reason_text why.Stale k
weak_reason_text weak.Atomicity k = codes "  ends its pair before\n"

-- the lines of a step by RISC-V's model, and of a cycle of such steps
abbrev pub weak_arc_text : List Logged → List Operation → List ReasonedStep → ℕ → List ℕ
weak_arc_text logged ops steps k =
    step_text (logged_at logged (reasoned_at steps k).from)
    ++ weak_reason_text (reasoned_at steps k).why (operation_at ops (reasoned_at steps k).from).kind

abbrev pub weak_cycle_text : List Logged → List Operation → List ReasonedStep → List ℕ
weak_cycle_text logged ops steps =
    flat_map (weak_arc_text logged ops steps) (range_with_len 0 (length steps))
    ++ step_text (logged_at logged (reasoned_at steps 0).from)

-- the line of an operation in the order; none for an opening store or a final word
abbrev pub turn_line : ℕ → List Logged → ℕ → List ℕ
turn_line openings logged x =
    if nat_lt x openings || is_final (logged_at logged x) then []
    else step_text (logged_at logged x)

-- the operations by their turns
abbrev pub turns_text : ℕ → List Logged → List ℕ → List ℕ
turns_text openings logged turns =
    flat_map (λ k. turn_line openings logged (place_in turns k)) (range_with_len 0 (length turns))
