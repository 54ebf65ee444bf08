-- The answer to the question which memory models a log obeys (this project's own format).
use Rattle.std.specs.Prelude.{◌≡◌, ◌⊎◌, ℕ, ◌<◌, Bool, true, false, not, ◌&&◌, List, [], ◌++◌, Option}
use Rattle.std.specs.Prelude.{Some, None, Ok, Err, codes, length, option_map, if◌then◌else◌}
use Rattle.lexer.specs.Outcome.{refusal_at}
use Rattle.memory_models.specs.declared.kinds.Operation.{Operation}
use Rattle.memory_models.specs.declared.kinds.Rule.{Rule}
use Rattle.memory_models.specs.declared.kinds.Step.{Step}
use Rattle.memory_models.specs.declared.kinds.Verdict.{Verdict}
use Rattle.memory_models.specs.declared.kinds.Verdict.TheVariants.{Ordered, Cycle}
use Rattle.memory_models.specs.declared.kinds.Why.{Why}
use Rattle.memory_models.specs.Arcs.{IsWhy}
use Rattle.memory_models.specs.Verdict.{AreAround, step_at}
use Rattle.weak_models.specs.declared.verdict.RvwmoVerdict.{RvwmoVerdict}
use Rattle.weak_models.specs.declared.verdict.RvwmoVerdict.TheVariants.{Ordered as Explained}
use Rattle.weak_models.specs.declared.verdict.RvwmoVerdict.TheVariants.{Cycle as Around}
use Rattle.model_text.specs.declared.logged.Logged.{Logged}
use Rattle.model_text.specs.declared.reason.LogReason.TheVariants as reason
use Rattle.trace_lines.specs.declared.reason.LineReason.TheVariants as line
use Rattle.model_text.specs.declared.trace.LogTrace.{LogTrace}
use Rattle.model_text.specs.declared.values.WrongReply.{WrongReply}
use Rattle.model_text.specs.Lines.{log_of}
use Rattle.model_text.specs.Made.{LogLines}
use Rattle.model_text.specs.Noted.{dependencies_of_log, notes_of_log}
use Rattle.model_text.specs.Traces.{IsTraceOfLog, steps_of_log, operations_of_log, writes_of_log}
use Rattle.model_text.specs.Values.{AreDueReplies, IsWrongReply}
use Rattle.model_answer.specs.declared.answer.Answer.{Answer}
use Rattle.model_answer.specs.declared.answer.NoAnswer.{NoAnswer}
use Rattle.model_answer.specs.declared.answer.NoAnswer.TheVariants.{Refused, Wrong, Memory}
use Rattle.model_answer.specs.declared.answer.Options.{Options}
use Rattle.model_answer.specs.declared.judged.Obeys.{Obeys}
use Rattle.model_answer.specs.declared.judged.Verdicts.{Verdicts}
use Rattle.model_answer.specs.declared.model.AskedModel.{AskedModel}
use Rattle.model_answer.specs.declared.model.AskedModel.TheVariants.{Rules, Rvwmo}
use Rattle.model_answer.specs.declared.model.MemoryModel.{MemoryModel}
use Rattle.model_answer.specs.declared.model.MemoryModel.TheVariants.{Coherent, Fenced, Pso, Tso, Sc}
use Rattle.model_answer.specs.declared.weak.Weak.{Weak}
use Rattle.model_answer.specs.declared.weak.WeakAnswer.{WeakAnswer}
use Rattle.model_answer.specs.Judged.{AreVerdicts, TellsObeyed, is_ordered}
use Rattle.model_answer.specs.Model.{model_word, rules_of_model}
use Rattle.model_answer.specs.Replies.{TellsReplies}
use Rattle.model_answer.specs.Texts.{cycle_text, is_told, obeys_text, turns_text, weak_cycle_text}
use Rattle.model_answer.specs.Texts.{why_at}
use Rattle.model_answer.specs.Weak.{IsWeakOn, TellsWeak, weak_answer_of}

-- the reasons of the steps of a cycle
pub record AreWhys (rules : List Rule) (ops : List Operation) (writes : List ℕ)
    (steps : List Step) (whys : List Why) : Type 0
  where
    pub size : length whys ≡ length steps
    pub each : (k : ℕ) → k < length steps
        → IsWhy rules ops writes (step_at steps k).from (step_at steps k).to (why_at whys k)

-- a text tells a cycle: steps that have these reasons and go around
pub record TellsCycle (rules : List Rule) (ops : List Operation) (writes : List ℕ)
    (logged : List Logged) (text : List ℕ) : Type 0
  where
    pub steps : List Step
    pub whys : List Why
    pub around : AreAround rules ops writes steps
    pub reasons : AreWhys rules ops writes steps whys
    pub is : text ≡ cycle_text logged ops steps whys

-- a text has one part more, of which something is true
pub record AddsPart (old new : List ℕ) (Is : List ℕ → Type 0) : Type 0 where
  pub part : List ℕ
  pub grown : new ≡ old ++ part
  pub is : Is part

-- whether there is a no, and whether there is a yes
abbrev pub is_no : Option Bool → Bool
is_no None = false
is_no (Some obeyed) = not obeyed

abbrev pub is_yes : Option Bool → Bool
is_yes None = false
is_yes (Some obeyed) = obeyed

-- the weakest model of which a no is told: RISC-V's stands behind `fenced`
abbrev pub weakest_told : Obeys → WeakAnswer → Option AskedModel
weakest_told o w =
    if not o.coherent then Some (Rules Coherent)
    else (if not o.fenced && is_told w.doubts o Fenced then Some (Rules Fenced)
    else (if is_no w.obeyed then Some Rvwmo
    else (if not o.pso && is_told w.doubts o Pso then Some (Rules Pso)
    else (if not o.tso && is_told w.doubts o Tso then Some (Rules Tso)
    else (if not o.sc then Some (Rules Sc)
    else None)))))

-- the strongest model that it obeys; what a fence may forbid counts only where the log has its fences
abbrev pub strongest_obeyed : Bool → Obeys → Option MemoryModel
strongest_obeyed fences o =
    if o.sc then Some Sc
    else (if o.tso && fences then Some Tso
    else (if o.pso && fences then Some Pso
    else (if o.fenced && fences then Some Fenced
    else (if o.coherent then Some Coherent
    else None))))

-- the strongest of which a yes is told: RISC-V's where the models by rules leave out what forbids
abbrev pub strongest_told : Bool → Obeys → WeakAnswer → Option AskedModel
strongest_told fences o w =
    if ((fences && w.doubts.more) && not o.sc) && is_yes w.obeyed then Some Rvwmo
    else option_map Rules (strongest_obeyed (not w.doubts.more) o)

-- the verdict of a model
abbrev pub verdict_by : {A : Type 0} → MemoryModel → Verdicts A → Verdict A
verdict_by Coherent v = v.coherent
verdict_by Fenced v = v.fenced
verdict_by Pso v = v.pso
verdict_by Tso v = v.tso
verdict_by Sc v = v.sc

-- which models are obeyed, by their verdicts
abbrev pub obeys_of : {A : Type 0} → Verdicts A → Obeys
obeys_of v = record {
  coherent = is_ordered v.coherent;
  fenced = is_ordered v.fenced;
  pso = is_ordered v.pso;
  tso = is_ordered v.tso;
  sc = is_ordered v.sc;
}

-- the line before a cycle, and the one before an order
abbrev pub cycle_heading : MemoryModel → List ℕ
cycle_heading model = codes "no order of " ++ model_word model ++ codes ":\n"

abbrev pub order_heading : MemoryModel → List ℕ
order_heading model = codes "an order of " ++ model_word model ++ codes ":\n"

-- the part of a cycle: of a verdict that is one, the heading and its lines
abbrev pub IsCycleOf : {A : Type 0} → LogTrace A → MemoryModel → Verdict A → List ℕ → Type 0
IsCycleOf t model (Ordered turns) part = part ≡ []
IsCycleOf t model (Cycle first) part = AddsPart (cycle_heading model) part
    (TellsCycle (rules_of_model model) t.operations.items t.writes.items t.steps.items)

-- that of RISC-V's model, whose verdict has its reasons
abbrev pub weak_cycle_of : {A : Type 0} → LogTrace A → Option (RvwmoVerdict A) → List ℕ
weak_cycle_of t None = []
weak_cycle_of t (Some (Explained turns)) = []
weak_cycle_of t (Some (Around steps)) =
    codes "no order of rvwmo:\n" ++ weak_cycle_text t.steps.items t.operations.items steps.items

-- nothing where no no is told, and else the cycle of the weakest model that is not obeyed
abbrev pub IsCyclePart : {A : Type 0} → LogTrace A → Verdicts A → Weak A → Option AskedModel → List ℕ
    → Type 0
IsCyclePart t v w None part = part ≡ []
IsCyclePart t v w (Some (Rules model)) part = IsCycleOf t model (verdict_by model v) part
IsCyclePart t v w (Some Rvwmo) part = part ≡ weak_cycle_of t w.verdict

-- the part of an order: of a verdict that is one, the heading and the operations by their turns
abbrev pub IsOrderOfLog : {A : Type 0} → LogTrace A → MemoryModel → Verdict A → List ℕ → Type 0
IsOrderOfLog t model (Cycle first) part = part ≡ []
IsOrderOfLog t model (Ordered turns) part =
    part ≡ order_heading model ++ turns_text t.openings t.steps.items turns.items

-- that of RISC-V's model
abbrev pub weak_order_of : {A : Type 0} → LogTrace A → Option (RvwmoVerdict A) → List ℕ
weak_order_of t None = []
weak_order_of t (Some (Around steps)) = []
weak_order_of t (Some (Explained turns)) =
    codes "an order of rvwmo:\n" ++ turns_text t.openings t.steps.items turns.items

-- nothing where no model is obeyed, and else the order of the strongest one that is
abbrev pub IsOrderPart : {A : Type 0} → LogTrace A → Verdicts A → Weak A → Option AskedModel → List ℕ
    → Type 0
IsOrderPart t v w None part = part ≡ []
IsOrderPart t v w (Some (Rules model)) part = IsOrderOfLog t model (verdict_by model v) part
IsOrderPart t v w (Some Rvwmo) part = part ≡ weak_order_of t w.verdict

-- nothing where no order is asked for
abbrev pub IsAskedPart : {A : Type 0} → LogTrace A → Verdicts A → Weak A → Bool → Bool → List ℕ
    → Type 0
IsAskedPart t v w fences false part = part ≡ []
IsAskedPart t v w fences true part =
    IsOrderPart t v w (strongest_told fences (obeys_of v) (weak_answer_of w)) part

-- what is printed: the models, the cycle, the order
pub record IsAnswerText {A : Type 0} (t : LogTrace A) (v : Verdicts A) (w : Weak A)
    (options : Options) (text : List ℕ) : Type 0
  where
    pub cycle : List ℕ
    pub order : List ℕ
    pub cycle_is : IsCyclePart t v w (weakest_told (obeys_of v) (weak_answer_of w)) cycle
    pub order_is : IsAskedPart t v w options.fences options.order order
    pub is : text
        ≡ (obeys_text options.fences (obeys_of v) (weak_answer_of w) ++ cycle) ++ order

-- the answer on the trace of a log: which models it obeys, and what is printed
pub record IsAnswer {A : Type 0} (log : LogLines) (t : LogTrace A) (options : Options) (a : Answer A) :
    Type 0
  where
    pub verdicts : Verdicts A
    pub judged : AreVerdicts t.operations.items t.writes.items verdicts
    pub obeys : a.obeys ≡ obeys_of verdicts
    pub told : TellsObeyed t.operations.items t.writes.items a.obeys
    pub weak : Weak A
    pub weakly : IsWeakOn log t options weak
    pub weak_is : a.weak ≡ weak_answer_of weak
    pub rvwmo : TellsWeak (notes_of_log log) (dependencies_of_log log) t.operations.items
        t.writes.items a.weak
    pub text : IsAnswerText t verdicts weak options a.text.items

-- the answer on a log: its trace is the one that its lines say, each reply is due, the answer is
-- that on the trace, and the machines of the models that are obeyed give the replies
pub record IsAnswerOn {A : Type 0} (log : LogLines) (options : Options) (a : Answer A) : Type 0
  where
    pub trace : LogTrace A
    pub traced : IsTraceOfLog log trace
    pub due : AreDueReplies trace.steps.items trace.operations.items trace.writes.items
    pub answer : IsAnswer log trace options a
    pub replies : TellsReplies trace.steps.items trace.operations.items trace.writes.items a.obeys

-- the answer to a text: it is a log, and the answer is that on the log
pub record IsAnswerTo {A : Type 0} (lines : List (List ℕ)) (options : Options) (a : Answer A) :
    Type 0
  where
    pub log : LogLines
    pub read : log_of lines ≡ Ok log
    pub is : IsAnswerOn log options a

-- why there is no answer on a log: a reply isn't due, or memory was refused
abbrev pub IsNoAnswerOn : LogLines → NoAnswer → Type 0
IsNoAnswerOn log (Refused refusal) = ⊥
IsNoAnswerOn log (Wrong wrong) =
    IsWrongReply (steps_of_log log) (operations_of_log log) (writes_of_log log) wrong
IsNoAnswerOn log Memory = Unit {0}

-- a reply of a log that isn't due
pub record IsWrongIn (lines : List (List ℕ)) (wrong : WrongReply) : Type 0 where
  pub log : LogLines
  pub read : log_of lines ≡ Ok log
  pub is : IsWrongReply (steps_of_log log) (operations_of_log log) (writes_of_log log) wrong

-- why there is no answer: the text is refused there, or a reply isn't due, or memory was refused
abbrev pub IsNoAnswerTo : List (List ℕ) → NoAnswer → Type 0
IsNoAnswerTo lines (Refused refusal) =
    (refusal ≡ refusal_at 0 (reason.Line line.Memory)) ⊎ (log_of lines ≡ Err refusal)
IsNoAnswerTo lines (Wrong wrong) = IsWrongIn lines wrong
IsNoAnswerTo lines Memory = Unit {0}
