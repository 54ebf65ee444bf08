use Rattle.std.proofs.Common.{◌<◌, length, arith}
use Rattle.std.proofs.lemmas.Option.{slice_get-get_or}
use Rattle.c_handles.specs.WatchRows.{effect_rows}
use Rattle.c_handles.proofs.WatchPut.{put_more}
use Rattle.c_handles.proofs.watch_rows.put_effects.Goals as goal

pub loop-i-preserved : goal.loop-i-preserved
loop-i-preserved g c =
    let l : c.loop-i.i < length c.args.effects.now = omega arith in
    put_more effect_rows c.args.effects.now c.loop-i.i _ c.args.rows.now.items c.loop-i.rows.items c.put_effect.new.rows.items
    (slice_get-get_or c.args.effects.now c.loop-i.i _ l) c.loop-i.invariant c.in_ok-put_effect.ensures
