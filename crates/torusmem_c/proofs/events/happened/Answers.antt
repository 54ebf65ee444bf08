use Rattle.std.proofs.Common.{◌<◌, length, sym}
use Rattle.std.proofs.lemmas.Option.{slice_get-get_or}
use Rattle.torusmem_c.specs.Happened.{happened_to, is_since}
use Rattle.torusmem_c.proofs.Happenings.{rows_more}
use Rattle.torusmem_c.proofs.events.happened.Goals as goal

pub loop-row-preserved : goal.loop-row-preserved
loop-row-preserved c =
    let low : c.loop-row.row-index < length c.args.rows.now = c.loop-row-test.true in
    rows_more (is_since c.args.from) happened_to c.args.rows.now c.loop-row.row-index _ c.loop-row.events.items c.put_row.new.events.items
    (sym (slice_get-get_or c.args.rows.now c.loop-row.row-index _ low)) c.loop-row.invariant c.in_ok-put_row.ensures
