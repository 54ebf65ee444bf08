use Rattle.std.proofs.Common.{◌<◌, length, arith}
use Rattle.std.proofs.lemmas.Option.{slice_get-get_or}
use Rattle.c_handles.specs.WatchRows.{glimpse_row}
use Rattle.c_handles.proofs.WatchPut.{put_one}
use Rattle.c_handles.proofs.watch_rows.put_glimpses.Goals as goal

pub loop-i-preserved : goal.loop-i-preserved
loop-i-preserved g c =
    let l : c.loop-i.i < length c.args.seen.now = omega arith in
    put_one glimpse_row c.args.seen.now c.loop-i.i _ c.args.rows.now.items c.loop-i.rows.items c.put_glimpse.new.rows.items
    (slice_get-get_or c.args.seen.now c.loop-i.i _ l) c.loop-i.invariant c.in_ok-put_glimpse.ensures
