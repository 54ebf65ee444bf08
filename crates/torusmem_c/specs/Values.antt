-- The models that a log obeys by its replies alone, as C sees them (this project's own format).
use Rattle.std.specs.Prelude.{◌≡◌, ℕ, ◌==◌, not, List, length, Option, Some, None}
use Rattle.lexer.specs.Faults.{fault_of_refusal}
use Rattle.model_text.specs.declared.logged.Logged.{Logged}
use Rattle.model_text.specs.declared.logged.Told.{Told}
use Rattle.model_text.specs.Reasons.{log_fault_of}
use Rattle.model_answer.specs.declared.judged.Obeys.{Obeys}
use Rattle.model_replies.specs.declared.answer.NoValueAnswer.{NoValueAnswer}
use Rattle.model_replies.specs.declared.answer.NoValueAnswer.TheVariants.{Refused}
use Rattle.model_replies.specs.declared.answer.NoValueAnswer.TheVariants.{Unwritten, Lost, Memory}
use Rattle.model_replies.specs.declared.answer.ValueAnswer.{ValueAnswer}
use Rattle.model_replies.specs.declared.answer.ValueOptions.{ValueOptions}
use Rattle.model_replies.specs.declared.decision.Decisions.{Decisions}
use Rattle.model_replies.specs.Answers.{HasNoAnswerTo, IsValueAnswerTo}
use Rattle.model_replies.specs.Judged.{is_broken}
use Rattle.model_replies.specs.Printed.{obeyed_by}
use Rattle.torusmem_c.specs.declared.values.ValuesRecord.{ValuesRecord}
use Rattle.torusmem_c.specs.declared.outcome.Code.{Code}
use Rattle.torusmem_c.specs.declared.outcome.Code.TheVariants as code
use Rattle.torusmem_c.specs.declared.outcome.Outcome.{Outcome}
use Rattle.torusmem_c.specs.Models.{models_number}
use Rattle.torusmem_c.specs.Outcome.{c_code, c_outcome, fault_outcome, no_memory}
use Rattle.torusmem_c.specs.Room.{put_over, put_code}

-- the models that are broken for certain
abbrev pub broken_by : Decisions → Obeys
broken_by all = record {
  coherent = is_broken all.coherent;
  fenced = is_broken all.fenced;
  pso = is_broken all.pso;
  tso = is_broken all.tso;
  sc = is_broken all.sc;
}

-- what is asked: at most so many nodes for each model, and an order too, unless the number is 0
abbrev pub asked_values : ℕ → ℕ → ValueOptions
asked_values nodes order = record { nodes = nodes; order = not (order == 0) }

-- what C sees of an answer: what became of its text, and how long that is
abbrev pub decided_record : Code → Decisions → ℕ → ValuesRecord
decided_record c all length = record {
  code = c_code c;
  obeyed = models_number (obeyed_by all);
  broken = models_number (broken_by all);
  value = length;
  other = 0;
}

-- what C sees where no model is asked
abbrev pub unvalued_record : Outcome → ℕ → ValuesRecord
unvalued_record o other = record {
  code = o.code;
  obeyed = 0;
  broken = 0;
  value = o.value;
  other = other;
}

-- the line of a reply, or else this one
abbrev pub line_told : ℕ → Option Told → ℕ
line_told line None = line
line_told line (Some told) = told.line

-- the line of an operation's reply, or that of the operation where it has none
abbrev pub reply_line : Logged → ℕ
reply_line step = line_told step.line step.told

-- what C sees of the reason why there is no answer
abbrev pub no_values_record : NoValueAnswer → ValuesRecord
no_values_record (Refused refusal) =
    unvalued_record (fault_outcome (fault_of_refusal log_fault_of refusal)) 0
no_values_record (Unwritten step) = unvalued_record (c_outcome code.Unwritten (reply_line step)) 0
no_values_record (Lost first second) =
    unvalued_record (c_outcome code.LostUpdate first.line) second.line
no_values_record Memory = unvalued_record no_memory 0

-- the text of the answer to a log of these lines is put into a buffer, and what is decided is told
pub record PutsValues (A : Type 0) (log : List (List ℕ)) (options : ValueOptions)
    (before after : List ℕ) (r : ValuesRecord) : Type 0
  where
    pub found : ValueAnswer A
    pub is : IsValueAnswerTo log options found
    pub buffer : after ≡ put_over found.text.items before
    pub answer : r ≡ decided_record (put_code code.Done found.text.items before) found.decisions
        (length found.text.items)

-- why there is no answer to it is told, and the buffer stays as it was
pub record TellsNoValues (log : List (List ℕ)) (before after : List ℕ) (r : ValuesRecord) : Type 0
  where
    pub why : NoValueAnswer
    pub is : HasNoAnswerTo log why
    pub buffer : after ≡ before
    pub answer : r ≡ no_values_record why
