use Rattle.std.proofs.Common.{◌+◌, inl, inr}
use Rattle.model_text.specs.Views.{log_so_far}
use Rattle.model_text.proofs.Refusing.{told}
use Rattle.report_model.specs.LogEntries.{after_entry, numbered_entries}
use Rattle.report_model.proofs.Taken.{entered, entered_first, refused}
use Rattle.report_model.proofs.numbered.log_of_entries.Goals as goal

pub loop-place-init : goal.loop-place-init
loop-place-init g c = record {
  reads = entered_first numbered_entries after_entry c.args.words _ _ c.args.entries.now c.in-Ok.ensures c.in_default-begin.ensures;
}

pub loop-place-preserved : goal.loop-place-preserved
loop-place-preserved g c = record {
  reads = entered numbered_entries after_entry c.loop-place.place (log_so_far c.loop-place.log) (log_so_far c.take.new.log) c.args.entries.now c.entry_at-entry.result _
      c.entry_at-entry.ensures c.in_default-take.ensures c.loop-place.invariant.reads;
}

pub returns-in-Err-take : goal.returns-in-Err-take
returns-in-Err-take g c = told c.in-Err-take.reason (c.loop-place.place + 1) c.at-in-Err-take.result _ c.at-in-Err-take.ensures (elim c.in-Err-take.ensures [
  | inl m ↦ inl m
  | inr bad ↦ inr (refused numbered_entries after_entry c.loop-place.place (log_so_far c.loop-place.log) c.args.entries.now c.entry_at-entry.result c.in-Err-take.reason _
      c.entry_at-entry.ensures bad c.loop-place.invariant.reads)
])
