use Rattle.std.proofs.Common.{◌≡◌, drop}
use Rattle.c_handles.specs.Gathered.{events_from, trace_of_records}
use Rattle.c_handles.specs.Kept.{IsGathered}
use Rattle.c_handles.specs.Views.{gathered_of}
use Rattle.c_handles.proofs.records.trace_of_records.Given as goal

-- what was gathered is a trace, and what is left of the records leads where all of them lead
abbrev pub invariant-loop-place : goal.invariant-loop-place
invariant-loop-place g l = record {
  kept : IsGathered l.words (gathered_of l.gathering);
  reads : events_from l.words (gathered_of l.gathering) l.place (drop l.place l.records) ≡ trace_of_records l.words l.records;
}
