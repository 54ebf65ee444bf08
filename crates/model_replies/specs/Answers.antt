-- The answer to the question which memory models a log obeys by its replies alone (this project's own
-- format).
use Rattle.std.specs.Prelude.{◌≡◌, ◌⊎◌, ℕ, List, length, Ok, Err}
use Rattle.lexer.specs.Outcome.{refusal_at}
use Rattle.trace_lines.specs.declared.reason.LineReason.TheVariants as line
use Rattle.model_answer.specs.declared.weak.Doubts.{Doubts}
use Rattle.model_answer.specs.Weak.{doubts_on}
use Rattle.model_text.specs.declared.logged.Logged.{Logged}
use Rattle.model_text.specs.declared.reason.LogReason.TheVariants as reason
use Rattle.model_text.specs.Made.{LogLines}
use Rattle.model_text.specs.Traces.{logged_at, steps_of_log}
use Rattle.model_values.specs.declared.valued.Valued.{Valued}
use Rattle.model_values.specs.Values.{IsLostUpdate, IsUnwritten}
use Rattle.model_replies.specs.declared.answer.NoValueAnswer.{NoValueAnswer}
use Rattle.model_replies.specs.declared.answer.NoValueAnswer.TheVariants.{Refused, Unwritten}
use Rattle.model_replies.specs.declared.answer.NoValueAnswer.TheVariants.{Lost, Memory}
use Rattle.model_replies.specs.declared.answer.ValueAnswer.{ValueAnswer}
use Rattle.model_replies.specs.declared.answer.ValueOptions.{ValueOptions}
use Rattle.model_replies.specs.declared.judging.Unsaid.{Unsaid}
use Rattle.model_replies.specs.declared.judging.Unsaid.TheVariants as unsaid
use Rattle.model_replies.specs.declared.judging.ValueVerdicts.{ValueVerdicts}
use Rattle.model_replies.specs.Judged.{AreValueVerdicts, HasNoPlacing, decisions_of, told_decisions}
use Rattle.model_replies.specs.Printed.{verdicts_text}
use Rattle.model_replies.specs.Reading.{values_of}
use Rattle.model_replies.specs.Steps.{IsValuedOf}

-- an answer has these verdicts, as far as they are certain, and prints them
pub record HasVerdicts {A : Type 0} (options : ValueOptions) (openings : ℕ) (steps : List Logged)
    (doubts : Doubts) (all : ValueVerdicts A) (a : ValueAnswer A) : Type 0
  where
    pub decisions : a.decisions ≡ told_decisions doubts (decisions_of all)
    pub text : a.text.items
        ≡ verdicts_text options.nodes options.order openings steps doubts all

-- the answer on a log: the verdicts are those on the words that its replies tell
pub record IsValueAnswerOn {A : Type 0} (log : LogLines) (options : ValueOptions)
    (a : ValueAnswer A) : Type 0
  where
    pub valued : Valued
    pub told : IsValuedOf log valued
    pub verdicts : ValueVerdicts A
    pub judged : AreValueVerdicts valued options.nodes verdicts
    pub is : HasVerdicts options (length log.addresses) (steps_of_log log) (doubts_on log)
        verdicts a

-- the answer to a text: it is a log with its replies, and the answer is that on the log
pub record IsValueAnswerTo {A : Type 0} (lines : List (List ℕ)) (options : ValueOptions)
    (a : ValueAnswer A) : Type 0
  where
    pub log : LogLines
    pub read : values_of lines ≡ Ok log
    pub is : IsValueAnswerOn log options a

-- why there is no answer on a log with these steps
abbrev pub no_answer_of : List Logged → Unsaid → NoValueAnswer
no_answer_of steps (unsaid.Unwritten x) = Unwritten (logged_at steps x)
no_answer_of steps (unsaid.Lost x y) = Lost (logged_at steps x) (logged_at steps y)
no_answer_of steps unsaid.Memory = Memory

-- an operation of a log found what no write of its word left, and no order explains the log
pub record IsUnwrittenIn (log : LogLines) (a : Logged) : Type 0 where
  pub valued : Valued
  pub told : IsValuedOf log valued
  pub place : ℕ
  pub unwritten : IsUnwritten valued place
  pub none : HasNoPlacing valued
  pub is : a ≡ logged_at (steps_of_log log) place

-- two operations of a log are a lost update, and no order explains the log
pub record IsLostIn (log : LogLines) (a b : Logged) : Type 0 where
  pub valued : Valued
  pub told : IsValuedOf log valued
  pub first : ℕ
  pub second : ℕ
  pub lost : IsLostUpdate valued first second
  pub none : HasNoPlacing valued
  pub first_is : a ≡ logged_at (steps_of_log log) first
  pub second_is : b ≡ logged_at (steps_of_log log) second

-- why there is no answer on a log: a reply is what no write left, or an update is lost, or memory was
-- refused
abbrev pub HasNoAnswerOn : LogLines → NoValueAnswer → Type 0
HasNoAnswerOn log (Refused refusal) = ⊥
HasNoAnswerOn log (Unwritten a) = IsUnwrittenIn log a
HasNoAnswerOn log (Lost a b) = IsLostIn log a b
HasNoAnswerOn log Memory = Unit {0}

-- a log with its replies, of which no model is asked
pub record IsUnaskedIn (lines : List (List ℕ)) (why : NoValueAnswer) : Type 0 where
  pub log : LogLines
  pub read : values_of lines ≡ Ok log
  pub is : HasNoAnswerOn log why

-- why there is no answer to a text: it is refused there, or no model is asked, or memory was refused
abbrev pub HasNoAnswerTo : List (List ℕ) → NoValueAnswer → Type 0
HasNoAnswerTo lines (Refused refusal) =
    (refusal ≡ refusal_at 0 (reason.Line line.Memory)) ⊎ (values_of lines ≡ Err refusal)
HasNoAnswerTo lines (Unwritten a) = IsUnaskedIn lines (Unwritten a)
HasNoAnswerTo lines (Lost a b) = IsUnaskedIn lines (Lost a b)
HasNoAnswerTo lines Memory = Unit {0}
