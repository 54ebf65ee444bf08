use Rattle.trace_watch.specs.Watched.{watched}
use Rattle.machine_record.specs.Recorded.{recording_of}
use Rattle.c_handles.proofs.WatchSaves.{saved_by}
use Rattle.c_handles.proofs.watch_bytes.bytes_of_watch.Goals as goal

pub returns : goal.returns
returns g c =
    saved_by (recording_of c.in_ok-kept.kept) (watched c.args.watch.now) c.in_ok-bytes.bytes.items c.in_ok-kept.ensures c.in_ok-bytes.ensures.bytes
    c.in_ok-bytes.ensures.back
