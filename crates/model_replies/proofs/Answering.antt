-- Answers on a log by what its replies tell.
use Rattle.std.proofs.Common.{◌≡◌, ℕ, List, length, ap, subst, Result, Ok, Err, IfOk}
use Rattle.model_text.specs.declared.logged.Logged.{Logged}
use Rattle.model_text.specs.Made.{LogLines}
use Rattle.model_text.specs.Traces.{logged_at, steps_of_log}
use Rattle.model_values.specs.declared.valued.Valued.{Valued}
use Rattle.model_answer.specs.declared.weak.Doubts.{Doubts}
use Rattle.model_answer.specs.Weak.{doubts_on}
use Rattle.model_replies.specs.declared.answer.NoValueAnswer.{NoValueAnswer}
use Rattle.model_replies.specs.declared.answer.ValueAnswer.{ValueAnswer}
use Rattle.model_replies.specs.declared.answer.ValueOptions.{ValueOptions}
use Rattle.model_replies.specs.declared.judging.Unsaid.{Unsaid}
use Rattle.model_replies.specs.declared.judging.Unsaid.TheVariants.{Unwritten, Lost, Memory}
use Rattle.model_replies.specs.declared.judging.ValueVerdicts.{ValueVerdicts}
use Rattle.model_replies.specs.declared.steps.ValuedLog.{ValuedLog}
use Rattle.model_replies.specs.Answers.{HasNoAnswerOn, HasVerdicts, IsValueAnswerOn, no_answer_of}
use Rattle.model_replies.specs.Judged.{AreValueVerdicts, IsUnsaid}
use Rattle.model_replies.specs.Steps.{IsValuedOf, TellsValues}

pub answered : {A : Type 0} (log : LogLines) (options : ValueOptions) (v : Valued) (t : ValuedLog A) (doubts : Doubts) (all : ValueVerdicts A)
    (a : ValueAnswer A) → TellsValues log t → IsValuedOf log v → doubts ≡ doubts_on log → AreValueVerdicts v options.nodes all
    → HasVerdicts options t.openings t.steps.items doubts all a → IsValueAnswerOn log options a
answered log options v t doubts all a tells told e judged is = record {
  valued = v;
  told = told;
  verdicts = all;
  judged = judged;
  is = subst (λ (d : Doubts). HasVerdicts options (length log.addresses) (steps_of_log log) d all a) e
      (subst (λ (n : ℕ). HasVerdicts options n (steps_of_log log) doubts all a) tells.openings
      (subst (λ (s : List Logged). HasVerdicts options t.openings s doubts all a) tells.steps is));
}

-- an answer that came is one on the log
pub answered_if : {A : Type 0} (log : LogLines) (options : ValueOptions) (v : Valued) (t : ValuedLog A) (doubts : Doubts) (all : ValueVerdicts A)
    (r : Result (ValueAnswer A) NoValueAnswer) → TellsValues log t → IsValuedOf log v → doubts ≡ doubts_on log → AreValueVerdicts v options.nodes all
    → IfOk r (HasVerdicts options t.openings t.steps.items doubts all) → IfOk r (IsValueAnswerOn log options)
answered_if log options v t doubts all (Ok a) tells told e judged is = answered log options v t doubts all a tells told e judged is
answered_if log options v t doubts all (Err why) tells told e judged is = tt

pub unanswered : (log : LogLines) (v : Valued) (steps : List Logged) (why : Unsaid) → steps ≡ steps_of_log log → IsValuedOf log v → IsUnsaid v why
    → HasNoAnswerOn log (no_answer_of steps why)
unanswered log v steps (Unwritten x) e told is = record {
  valued = v;
  told = told;
  place = x;
  unwritten = is.0;
  none = is.1;
  is = ap (λ (s : List Logged). logged_at s x) e;
}
unanswered log v steps (Lost x y) e told is = record {
  valued = v;
  told = told;
  first = x;
  second = y;
  lost = is.0;
  none = is.1;
  first_is = ap (λ (s : List Logged). logged_at s x) e;
  second_is = ap (λ (s : List Logged). logged_at s y) e;
}
unanswered log v steps Memory e told is = tt
