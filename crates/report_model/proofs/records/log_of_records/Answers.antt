use Rattle.std.proofs.Common.{◌+◌, inl, inr}
use Rattle.model_text.specs.Views.{log_so_far}
use Rattle.model_text.proofs.Refusing.{told}
use Rattle.report_model.specs.LogEntries.{numbered_entries}
use Rattle.report_model.specs.Records.{after_model_record}
use Rattle.report_model.proofs.Taken.{entered, entered_first, refused}
use Rattle.report_model.proofs.records.log_of_records.Goals as goal

pub loop-place-init : goal.loop-place-init
loop-place-init g c = record {
  reads = entered_first numbered_entries after_model_record c.args.words _ _ c.args.records.now c.in-Ok.ensures c.in_default-begin.ensures;
}

pub loop-place-preserved : goal.loop-place-preserved
loop-place-preserved g c = record {
  reads = entered numbered_entries after_model_record c.loop-place.place (log_so_far c.loop-place.log) (log_so_far c.take_record.new.log) c.args.records.now c.record_at-given.result _
      c.record_at-given.ensures c.in_default-take_record.ensures c.loop-place.invariant.reads;
}

pub returns-in-Err-take_record : goal.returns-in-Err-take_record
returns-in-Err-take_record g c = told c.in-Err-take_record.reason (c.loop-place.place + 1) c.at-in-Err-take_record.result _ c.at-in-Err-take_record.ensures (elim c.in-Err-take_record.ensures [
  | inl m ↦ inl m
  | inr bad ↦ inr (refused numbered_entries after_model_record c.loop-place.place (log_so_far c.loop-place.log) c.args.records.now c.record_at-given.result c.in-Err-take_record.reason _
      c.record_at-given.ensures bad c.loop-place.invariant.reads)
])
