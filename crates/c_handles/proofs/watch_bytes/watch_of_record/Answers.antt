use Rattle.std.proofs.Common.{List, ◌∙◌, ap}
use Rattle.trace_watch.specs.Watched.{watched}
use Rattle.machine_record.specs.declared.row.LineRow.{LineRow}
use Rattle.machine_record.specs.Recorded.{recording_of}
use Rattle.c_handles.specs.WatchReading.{after_rows, no_parts, watched_in}
use Rattle.c_handles.proofs.WatchSaves.{no_watch}
use Rattle.c_handles.proofs.watch_bytes.watch_of_record.Goals as goal

pub returns-else-branch : goal.returns-else-branch
returns-else-branch g c =
    no_watch (recording_of c.args.kept.now) c.args.bytes.now (watched c.in_ok-watch.watch)
    (c.in_ok-watch.ensures ∙ ap (λ (rows : List LineRow). watched_in (after_rows no_parts rows)) c.deref.ensures.value)
    (c.in_ok-are_of.ensures.no c.if-branch.false)
