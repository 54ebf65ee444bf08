use Rattle.std.proofs.Common.{◌≤◌, ◌∙◌, List, length, sym, ap, subst, arith}
use Rattle.std.proofs.lemmas.List.{at_drop_all}
use Rattle.c_handles.specs.declared.record.EventRecord.{EventRecord}
use Rattle.c_handles.specs.Gathered.{Gathered, events_from}
use Rattle.c_handles.specs.Kept.{IsGathered}
use Rattle.c_handles.specs.Views.{gathered_of}
use Rattle.c_handles.proofs.Events.{kept_none}
use Rattle.c_handles.proofs.Stands.{record_fails, record_stands, record_step}
use Rattle.c_handles.proofs.records.trace_of_records.Goals as goal

pub loop-place-init : goal.loop-place-init
loop-place-init g c = record {
  kept = subst (IsGathered c.args.words) (sym c.in-Ok.ensures) (kept_none c.args.words);
  reads = ap (λ (x : Gathered). events_from c.args.words x 0 c.args.records.now) c.in-Ok.ensures;
}

pub loop-place-preserved : goal.loop-place-preserved
loop-place-preserved g c = record {
  kept = record_stands c.args.words (gathered_of c.loop-place.gathering) (gathered_of c.take.new.self) c.record_at-event.result
      c.loop-place.invariant.kept
      c.in_default-take.ensures;
  reads = record_step c.args.words (gathered_of c.loop-place.gathering) (gathered_of c.take.new.self) c.loop-place.place c.args.records.now
      c.record_at-event.result _ c.record_at-event.ensures c.in_default-take.ensures c.loop-place.invariant.reads;
}

pub returns : goal.returns
returns g c =
    let end : length c.args.records.now ≤ c.loop-place.place = omega arith in
    record {
      value = sym c.loop-place.invariant.reads
          ∙ at_drop_all (λ (xs : List EventRecord). events_from c.args.words (gathered_of c.loop-place.gathering) c.loop-place.place xs)
          c.args.records.now c.loop-place.place end;
      trace = c.loop-place.invariant.kept.trace;
    }

pub returns-in-Err-clause-value : goal.returns-in-Err-clause-value
returns-in-Err-clause-value g c =
    record_fails c.args.words (gathered_of c.loop-place.gathering) c.loop-place.place c.args.records.now c.record_at-event.result c.in-Err.fault
    c.fault_at-in-Err.result _ c.record_at-event.ensures c.in-Err.ensures c.fault_at-in-Err.ensures c.loop-place.invariant.reads
