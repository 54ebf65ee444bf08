-- The verdicts of the models on words alone.
use Rattle.std.specs.Prelude.{ℕ, ◌||◌, Bool, true, false, not, List, if◌then◌else◌}
use Rattle.memory_models.specs.declared.kinds.Operation.{Operation}
use Rattle.memory_models.specs.Models.{sequential, total_store_order, partial_store_order}
use Rattle.memory_models.specs.Models.{coherent, fenced}
use Rattle.model_answer.specs.declared.model.MemoryModel.{MemoryModel}
use Rattle.model_answer.specs.declared.weak.Doubts.{Doubts}
use Rattle.model_answer.specs.declared.model.MemoryModel.TheVariants as model
use Rattle.model_values.specs.declared.question.OrderVerdict.{OrderVerdict}
use Rattle.model_values.specs.declared.question.OrderVerdict.TheVariants as verdict
use Rattle.model_values.specs.declared.valued.Valued.{Valued}
use Rattle.model_values.specs.ValuedVerdict.{IsJudgedOn}
use Rattle.model_values.specs.Values.{IsLostUpdate, IsUnwritten, IsValuedPlacing}
use Rattle.model_replies.specs.declared.decision.Decision.{Decision}
use Rattle.model_replies.specs.declared.decision.Decision.TheVariants.{Obeys, Breaks, Undecided, NotTold}
use Rattle.model_replies.specs.declared.decision.Decisions.{Decisions}
use Rattle.model_replies.specs.declared.judging.Unsaid.{Unsaid}
use Rattle.model_replies.specs.declared.judging.Unsaid.TheVariants.{Unwritten, Lost, Memory}
use Rattle.model_replies.specs.declared.judging.ValueVerdicts.{ValueVerdicts}

-- no order of each word's writes gives the words, so every model is broken
abbrev pub HasNoPlacing : Valued → Type 0
HasNoPlacing v = (placed : List Operation) (writes : List ℕ) → IsValuedPlacing v placed writes → ⊥

-- why no model is asked: what was found no write left; or an update is lost; or memory was refused
abbrev pub IsUnsaid : Valued → Unsaid → Type 0
IsUnsaid v (Unwritten x) = IsUnwritten v x × HasNoPlacing v
IsUnsaid v (Lost x y) = IsLostUpdate v x y × HasNoPlacing v
IsUnsaid v Memory = Unit {0}

-- the verdict of each model, by a search of at most so many nodes
pub record AreValueVerdicts {A : Type 0} (v : Valued) (nodes : ℕ) (all : ValueVerdicts A) : Type 0
  where
    pub by_coherent : IsJudgedOn coherent v nodes all.coherent
    pub by_fenced : IsJudgedOn fenced v nodes all.fenced
    pub by_pso : IsJudgedOn partial_store_order v nodes all.pso
    pub by_tso : IsJudgedOn total_store_order v nodes all.tso
    pub by_sc : IsJudgedOn sequential v nodes all.sc

-- what a verdict decides
abbrev pub decision_of : {A : Type 0} → OrderVerdict A → Decision
decision_of (verdict.Obeys e) = Obeys
decision_of verdict.Breaks = Breaks
decision_of verdict.Undecided = Undecided

-- what the verdicts of the models decide
abbrev pub decisions_of : {A : Type 0} → ValueVerdicts A → Decisions
decisions_of all = record {
  coherent = decision_of all.coherent;
  fenced = decision_of all.fenced;
  pso = decision_of all.pso;
  tso = decision_of all.tso;
  sc = decision_of all.sc;
}

-- whether a model is obeyed, or broken, for certain
abbrev pub is_obeyed : Decision → Bool
is_obeyed Obeys = true
is_obeyed Breaks = false
is_obeyed Undecided = false
is_obeyed NotTold = false

abbrev pub is_broken : Decision → Bool
is_broken Obeys = false
is_broken Breaks = true
is_broken Undecided = false
is_broken NotTold = false

-- whether a decision is certain: what the models leave out may turn a yes into a no, but not with
-- one memory; what they count as too strong may turn a no into a yes, but not without coherence
abbrev pub is_certain : Doubts → Decisions → Decision → Bool
is_certain doubts all Obeys = not doubts.more || is_obeyed all.sc
is_certain doubts all Breaks = not doubts.less || is_broken all.coherent
is_certain doubts all Undecided = true
is_certain doubts all NotTold = true

abbrev pub told_of : Doubts → Decisions → Decision → Decision
told_of doubts all decision = if is_certain doubts all decision then decision else NotTold

-- the decisions that are certain
abbrev pub told_decisions : Doubts → Decisions → Decisions
told_decisions doubts all = record {
  coherent = all.coherent;
  fenced = told_of doubts all all.fenced;
  pso = told_of doubts all all.pso;
  tso = told_of doubts all all.tso;
  sc = all.sc;
}

-- the decision on a model
abbrev pub decision_on : MemoryModel → Decisions → Decision
decision_on model.Coherent all = all.coherent
decision_on model.Fenced all = all.fenced
decision_on model.Pso all = all.pso
decision_on model.Tso all = all.tso
decision_on model.Sc all = all.sc

-- the verdict of a model
abbrev pub value_verdict_by : {A : Type 0} → MemoryModel → ValueVerdicts A → OrderVerdict A
value_verdict_by model.Coherent all = all.coherent
value_verdict_by model.Fenced all = all.fenced
value_verdict_by model.Pso all = all.pso
value_verdict_by model.Tso all = all.tso
value_verdict_by model.Sc all = all.sc
