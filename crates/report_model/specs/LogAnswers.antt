-- The answer to the question which memory models the log of some entries obeys.
use Rattle.std.specs.Prelude.{◌≡◌, ◌⊎◌, ℕ, List, Result, Ok, Err}
use Rattle.lexer.specs.declared.refusal.Refusal.{Refusal}
use Rattle.lexer.specs.Outcome.{refusal_at}
use Rattle.trace_lines.specs.declared.reason.LineReason.TheVariants as line
use Rattle.model_text.specs.declared.reason.LogReason.{LogReason}
use Rattle.model_text.specs.declared.reason.LogReason.TheVariants as reason
use Rattle.model_text.specs.Made.{LogLines}
use Rattle.model_answer.specs.declared.answer.Answer.{Answer}
use Rattle.model_answer.specs.declared.answer.NoAnswer.{NoAnswer}
use Rattle.model_answer.specs.declared.answer.NoAnswer.TheVariants.{Refused, Wrong, Memory}
use Rattle.model_answer.specs.declared.answer.Options.{Options}
use Rattle.model_answer.specs.Answer.{IsAnswerOn, IsNoAnswerOn}
use Rattle.report_model.specs.declared.entry.LogEntry.{LogEntry}
use Rattle.report_model.specs.declared.record.LogRecord.{LogRecord}
use Rattle.report_model.specs.declared.entry.LineEntry.{LineEntry}
use Rattle.report_model.specs.LogEntries.{log_of_entries, log_of_lines}
use Rattle.report_model.specs.Records.{log_of_records}

-- a log was read, and the answer is that on the log
pub record IsAnswerRead {A : Type 0} (read : Result LogLines (Refusal LogReason))
    (options : Options) (a : Answer A) : Type 0
  where
    pub log : LogLines
    pub is_log : read ≡ Ok log
    pub is : IsAnswerOn log options a

-- one was read, on which there is no answer
pub record HasNoAnswer (read : Result LogLines (Refusal LogReason)) (why : NoAnswer) : Type 0 where
  pub log : LogLines
  pub is_log : read ≡ Ok log
  pub is : IsNoAnswerOn log why

-- why there is no answer: what was read is refused, or a reply isn't due, or memory was refused
abbrev pub IsNoAnswerRead : Result LogLines (Refusal LogReason) → NoAnswer → Type 0
IsNoAnswerRead read (Refused refusal) =
    (refusal ≡ refusal_at 0 (reason.Line line.Memory)) ⊎ (read ≡ Err refusal)
IsNoAnswerRead read (Wrong wrong) = HasNoAnswer read (Wrong wrong)
IsNoAnswerRead read Memory = Unit {0}

-- the answer on the log that entries are
abbrev pub IsAnswerToEntries : {A : Type 0} → ℕ → List LogEntry → Options → Answer A → Type 0
IsAnswerToEntries words entries options a = IsAnswerRead (log_of_entries words entries) options a

-- why there is none on it
abbrev pub IsNoAnswerToEntries : ℕ → List LogEntry → NoAnswer → Type 0
IsNoAnswerToEntries words entries why = IsNoAnswerRead (log_of_entries words entries) why

-- the answer on the log that records are
abbrev pub IsAnswerToRecords : {A : Type 0} → ℕ → List LogRecord → Options → Answer A → Type 0
IsAnswerToRecords words records options a = IsAnswerRead (log_of_records words records) options a

-- why there is none on it
abbrev pub IsNoAnswerToRecords : ℕ → List LogRecord → NoAnswer → Type 0
IsNoAnswerToRecords words records why = IsNoAnswerRead (log_of_records words records) why

-- the answer on the log that entries of a text are
abbrev pub IsAnswerToLines : {A : Type 0} → ℕ → List LineEntry → Options → Answer A → Type 0
IsAnswerToLines words entries options a = IsAnswerRead (log_of_lines words entries) options a

-- why there is none on it
abbrev pub IsNoAnswerToLines : ℕ → List LineEntry → NoAnswer → Type 0
IsNoAnswerToLines words entries why = IsNoAnswerRead (log_of_lines words entries) why
