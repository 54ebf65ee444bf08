use Rattle.std.proofs.Common.{◌+◌}
use Rattle.model_text.specs.Views.{log_so_far}
use Rattle.model_answer.proofs.Told.{replies_told}
use Rattle.model_answer.proofs.answer.answer_to_log.Goals as goal

pub returns-in-Ok-answer_on-clause-answer : goal.returns-in-Ok-answer_on-clause-answer
returns-in-Ok-answer_on-clause-answer g c =
    let t = c.in-Ok.trace in
    record {
      trace = c.in-Ok.trace;
      traced = c.in-Ok.ensures;
      due = rw c.in-Ok-None.field-0-is at c.in-Ok-None.ensures;
      answer = c.in-Ok-answer_on.ensures;
      replies = replies_told (log_so_far c.args.log.now) (t.openings + 1) t.openings t.steps.items t.operations.items t.writes.items
          c.in-Ok-answer_on.answer.obeys c.in-Ok.ensures.tells.openings c.in-Ok.ensures.tells.steps c.in-Ok.ensures.tells.operations
          c.in-Ok.ensures.trace c.in-Ok.ensures.opened (rw c.in-Ok-None.field-0-is at c.in-Ok-None.ensures) c.in-Ok-answer_on.ensures.told;
    }
