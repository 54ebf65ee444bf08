use Rattle.std.proofs.Common.{rules, ◌∙◌, sym, subst}
use Rattle.model_text.specs.Views.{log_so_far}
use Rattle.model_replies.specs.Answers.{HasNoAnswerOn}
use Rattle.model_replies.proofs.Answering.{answered_if, unanswered}
use Rattle.model_replies.proofs.answer.answer_to_values.Goals as goal

pub returns-in-Ok-verdicts_of_values-clause-answer :
    goal.returns-in-Ok-verdicts_of_values-clause-answer
returns-in-Ok-verdicts_of_values-clause-answer g c =
    answered_if (log_so_far c.args.log.now) c.args.options _ c.in-Ok.values c.in-Ok-doubts_on.doubts c.in-Ok-verdicts_of_values.verdicts c.answer_of.result
    c.in-Ok.ensures (search rules) c.in-Ok-doubts_on.ensures c.in-Ok-verdicts_of_values.ensures.judged c.answer_of.ensures.answer

pub returns-clause-none : goal.returns-clause-none
returns-clause-none g c =
    subst (HasNoAnswerOn (log_so_far c.args.log.now)) (sym c.no_answer.ensures)
    (unanswered (log_so_far c.args.log.now) _ c.deref-in-Err.result.now c.in-Err.why
    (c.deref-in-Err.ensures.value ∙ c.in-Ok.ensures.steps) (search rules) c.in-Err.ensures.unsaid)
