-- What is printed of the models that words alone obey (this project's own format).
use Rattle.std.specs.Prelude.{ℕ, Bool, true, false, List, [], ◌++◌, Option, Some, None, codes}
use Rattle.std.specs.Prelude.{if◌then◌else◌}
use Rattle.std.specs.Prelude.{decimal}
use Rattle.model_answer.specs.declared.judged.Obeys.{Obeys}
use Rattle.model_answer.specs.declared.model.MemoryModel.{MemoryModel}
use Rattle.model_answer.specs.declared.model.MemoryModel.TheVariants as model
use Rattle.model_answer.specs.declared.weak.Doubts.{Doubts}
use Rattle.model_answer.specs.Answer.{order_heading, strongest_obeyed}
use Rattle.model_answer.specs.Model.{model_word}
use Rattle.model_answer.specs.Texts.{model_line, turns_text, untold_text}
use Rattle.model_text.specs.declared.logged.Logged.{Logged}
use Rattle.model_values.specs.declared.question.OrderVerdict.{OrderVerdict}
use Rattle.model_values.specs.declared.question.OrderVerdict.TheVariants as verdict
use Rattle.model_replies.specs.declared.decision.Decision.{Decision}
use Rattle.model_replies.specs.declared.decision.Decision.TheVariants.{Obeys as Obeyed}
use Rattle.model_replies.specs.declared.decision.Decision.TheVariants.{Breaks, Undecided, NotTold}
use Rattle.model_replies.specs.declared.decision.Decisions.{Decisions}
use Rattle.model_replies.specs.declared.judging.ValueVerdicts.{ValueVerdicts}
use Rattle.model_replies.specs.Judged.{decisions_of, is_obeyed, told_decisions, value_verdict_by}

-- which models are obeyed for certain
abbrev pub obeyed_by : Decisions → Obeys
obeyed_by all = record {
  coherent = is_obeyed all.coherent;
  fenced = is_obeyed all.fenced;
  pso = is_obeyed all.pso;
  tso = is_obeyed all.tso;
  sc = is_obeyed all.sc;
}

-- the line of a model, by a search of at most so many nodes
abbrev pub decision_line : ℕ → MemoryModel → Decision → List ℕ
decision_line nodes model Obeyed = model_line model true
decision_line nodes model Breaks = model_line model false
decision_line nodes model Undecided =
    model_word model ++ (codes " undecided: more than " ++ (decimal nodes ++ codes " nodes\n"))
decision_line nodes model NotTold = model_word model ++ untold_text true

-- the lines of the models, weakest first
abbrev pub decisions_text : ℕ → Decisions → List ℕ
decisions_text nodes all =
    decision_line nodes model.Coherent all.coherent
    ++ (decision_line nodes model.Fenced all.fenced
    ++ (decision_line nodes model.Pso all.pso
    ++ (decision_line nodes model.Tso all.tso
    ++ decision_line nodes model.Sc all.sc)))

-- the operations in the order of a model, behind a heading; nothing where it is not obeyed for
-- certain
abbrev pub order_text : {A : Type 0} → ℕ → List Logged → MemoryModel → OrderVerdict A → List ℕ
order_text openings steps model (verdict.Obeys e) =
    order_heading model ++ turns_text openings steps e.turns.items
order_text openings steps model verdict.Breaks = []
order_text openings steps model verdict.Undecided = []

-- the model of which an order is asked for: the strongest that is obeyed for certain
abbrev pub asked_model : Bool → Decisions → Option MemoryModel
asked_model order all = if order then strongest_obeyed true (obeyed_by all) else None

-- its order; nothing where there is no such model
abbrev pub asked_text : {A : Type 0} → ℕ → List Logged → ValueVerdicts A → Option MemoryModel
    → List ℕ
asked_text openings steps all None = []
asked_text openings steps all (Some model) =
    order_text openings steps model (value_verdict_by model all)

-- what is printed: the models as far as they are certain, the order
abbrev pub verdicts_text : {A : Type 0} → ℕ → Bool → ℕ → List Logged → Doubts → ValueVerdicts A
    → List ℕ
verdicts_text nodes order openings steps doubts all =
    decisions_text nodes (told_decisions doubts (decisions_of all))
    ++ asked_text openings steps all (asked_model order (told_decisions doubts (decisions_of all)))
