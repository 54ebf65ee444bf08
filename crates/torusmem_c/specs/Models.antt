-- The models that a log obeys, as C sees them (this project's own format).
use Rattle.std.specs.Prelude.{◌≡◌, ℕ, ◌+◌, ◌*◌, ◌==◌, not, true, false, List, length}
use Rattle.lexer.specs.Faults.{fault_of_refusal}
use Rattle.model_text.specs.declared.values.WrongReply.{WrongReply}
use Rattle.model_text.specs.Reasons.{log_fault_of}
use Rattle.model_answer.specs.declared.answer.Answer.{Answer}
use Rattle.model_answer.specs.declared.answer.NoAnswer.{NoAnswer}
use Rattle.model_answer.specs.declared.answer.NoAnswer.TheVariants.{Refused, Wrong, Memory}
use Rattle.model_answer.specs.declared.answer.Options.{Options}
use Rattle.model_answer.specs.declared.judged.Obeys.{Obeys}
use Rattle.report_model.specs.declared.record.LogRecord.{LogRecord}
use Rattle.report_model.specs.LogAnswers.{IsAnswerToRecords, IsNoAnswerToRecords}
use Rattle.torusmem_c.specs.declared.models.ModelsRecord.{ModelsRecord}
use Rattle.torusmem_c.specs.declared.outcome.Code.{Code}
use Rattle.torusmem_c.specs.declared.outcome.Code.TheVariants as code
use Rattle.torusmem_c.specs.declared.outcome.Outcome.{Outcome}
use Rattle.torusmem_c.specs.Outcome.{c_code, c_flag, fault_outcome, no_memory}
use Rattle.torusmem_c.specs.Room.{put_over, put_code}

-- the sum of the numbers of some models, as those that are obeyed: 1, 2, 4, 8 and 16, weakest first
abbrev pub models_number : Obeys → ℕ
models_number o = c_flag o.coherent + 2 * c_flag o.fenced + 4 * c_flag o.pso + 8 * c_flag o.tso
    + 16 * c_flag o.sc

-- what is asked: an order too, unless the number is 0
abbrev pub asked : ℕ → Options
asked order = record { order = not (order == 0); fences = true; rvwmo = false }

-- what C sees of an answer: what became of its text, and how long that is
abbrev pub models_record : Code → Obeys → ℕ → ModelsRecord
models_record c obeys length = record {
  code = c_code c;
  models = models_number obeys;
  value = length;
  word = 0;
  writer = 0;
}

-- what C sees where no model is asked
abbrev pub unasked_record : Outcome → ModelsRecord
unasked_record o = record { code = o.code; models = 0; value = o.value; word = 0; writer = 0 }

-- what C sees of a reply that isn't due
abbrev pub wrong_record : WrongReply → ModelsRecord
wrong_record wrong = record {
  code = c_code code.WrongReply;
  models = 0;
  value = wrong.told.line;
  word = wrong.word;
  writer = wrong.line;
}

-- what C sees of the reason why there is no answer
abbrev pub no_models_record : NoAnswer → ModelsRecord
no_models_record (Refused refusal) =
    unasked_record (fault_outcome (fault_of_refusal log_fault_of refusal))
no_models_record (Wrong wrong) = wrong_record wrong
no_models_record Memory = unasked_record no_memory

-- the text of the answer on the log that records are is put into a buffer
pub record PutsModels (A : Type 0) (words : ℕ) (records : List LogRecord) (options : Options)
    (before after : List ℕ) (r : ModelsRecord) : Type 0
  where
    pub found : Answer A
    pub is : IsAnswerToRecords words records options found
    pub buffer : after ≡ put_over found.text.items before
    pub answer : r ≡ models_record (put_code code.Done found.text.items before) found.obeys
        (length found.text.items)

-- why there is no answer on it is told, and the buffer stays as it was
pub record TellsNoModels (words : ℕ) (records : List LogRecord) (before after : List ℕ)
    (r : ModelsRecord) : Type 0
  where
    pub why : NoAnswer
    pub is : IsNoAnswerToRecords words records why
    pub buffer : after ≡ before
    pub answer : r ≡ no_models_record why
