use Rattle.model_text.specs.Views.{log_so_far}
use Rattle.report_model.proofs.log_answer.answer_to_entries.Goals as goal

pub returns-in-Ok-answer_to_log-clause-answer : goal.returns-in-Ok-answer_to_log-clause-answer
returns-in-Ok-answer_to_log-clause-answer g c = record {
  log = log_so_far c.in-Ok.log;
  is_log = c.in-Ok.ensures;
  is = c.in-Ok-answer_to_log.ensures.answer;
}
