use Rattle.machine_record.specs.Recorded.{recording_of}
use Rattle.c_handles.proofs.WatchSaves.{none_found, other_by, restored_by, some_found}
use Rattle.c_handles.proofs.watch_bytes.watch_of_bytes.Goals as goal

pub returns-in-Ok-Some-clause-ok : goal.returns-in-Ok-Some-clause-ok
returns-in-Ok-Some-clause-ok g c =
    restored_by c.args.bytes.now c.in-Ok-Some.watch
    (some_found c.in-Ok-Some.field-0 c.in-Ok-Some.watch _ _ c.in-Ok-Some.field-0-is c.in-Ok-Some.ensures)

pub returns-in-Ok-None-clause-err : goal.returns-in-Ok-None-clause-err
returns-in-Ok-None-clause-err g c =
    other_by c.args.bytes.now (recording_of c.in_ok-kept.kept) c.in_ok-kept.ensures.ok
    (none_found c.in-Ok-None.field-0 _ _ c.in-Ok-None.field-0-is c.in-Ok-None.ensures)
