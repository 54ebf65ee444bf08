use Rattle.std.proofs.Common.{◌+◌, inl, inr}
use Rattle.model_text.specs.Views.{log_so_far}
use Rattle.model_text.proofs.Refusing.{told}
use Rattle.report_model.specs.LogEntries.{after_line_entry, line_of_entry}
use Rattle.report_model.proofs.Taken.{entered, entered_first, refused}
use Rattle.report_model.proofs.lined.log_of_lines.Goals as goal

pub loop-place-init : goal.loop-place-init
loop-place-init g c = record {
  reads = entered_first line_of_entry after_line_entry c.args.words _ _ c.args.entries.now c.in-Ok.ensures c.in_default-begin.ensures;
}

pub loop-place-preserved : goal.loop-place-preserved
loop-place-preserved g c = record {
  reads = entered line_of_entry after_line_entry c.loop-place.place (log_so_far c.loop-place.log) (log_so_far c.take.new.log) c.args.entries.now c.line_at-lined.result _
      c.line_at-lined.ensures c.in_default-take.ensures c.loop-place.invariant.reads;
}

pub returns-in-Err-take : goal.returns-in-Err-take
returns-in-Err-take g c = told c.in-Err-take.reason (c.line_at-lined.result.line) c.at-in-Err-take.result _ c.at-in-Err-take.ensures (elim c.in-Err-take.ensures [
  | inl m ↦ inl m
  | inr bad ↦ inr (refused line_of_entry after_line_entry c.loop-place.place (log_so_far c.loop-place.log) c.args.entries.now c.line_at-lined.result c.in-Err-take.reason _
      c.line_at-lined.ensures bad c.loop-place.invariant.reads)
])
