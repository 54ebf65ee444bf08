use Rattle.std.proofs.Common.{◌∙◌, sym}
use Rattle.report_model.specs.Entries.{entries_of}
use Rattle.report_model.specs.Run.{run_seen}
use Rattle.report_model.proofs.Answered.{answer_to_same, none_to_same}
use Rattle.report_model.proofs.answer.answer_to_run.Goals as goal

pub returns-in-Ok-answer_to_lines-clause-answer : goal.returns-in-Ok-answer_to_lines-clause-answer
returns-in-Ok-answer_to_lines-clause-answer g c = record {
  ordered = sym c.lacks_order.ensures ∙ c.if-lacks_order.false;
  is = answer_to_same c.args.run.now.words c.from.result (entries_of (run_seen c.args.run.now)) c.deref.result.now c.args.options
      c.in-Ok-answer_to_lines.answer c.from.ensures (c.deref.ensures.value ∙ c.in-Ok.ensures) c.in-Ok-answer_to_lines.ensures.answer;
}

pub returns-clause-none : goal.returns-clause-none
returns-clause-none g c =
    none_to_same c.args.run.now.words c.from.result (entries_of (run_seen c.args.run.now)) c.deref.result.now c.in-Err.why c.from.ensures
    (c.deref.ensures.value ∙ c.in-Ok.ensures) c.in-Err.ensures.none
