use Rattle.std.proofs.Common.{◌<◌, length, sym}
use Rattle.std.proofs.lemmas.Option.{slice_get-get_or}
use Rattle.machine_record.specs.Bytes.{row_bytes}
use Rattle.machine_record.specs.Widths.{IsRow}
use Rattle.machine_record.proofs.Pieces.{put_more, so_more}
use Rattle.machine_record.proofs.bytes.put_rows.Goals as goal

pub loop-row-preserved : goal.loop-row-preserved
loop-row-preserved g c =
    let low : c.loop-row.row-index < length c.args.rows.now = c.loop-row-test.true in
    record {
      put = put_more row_bytes c.args.rows.now c.loop-row.row-index _ c.args.bytes.now.items c.loop-row.bytes.items c.put_row.new.bytes.items
          (sym (slice_get-get_or c.args.rows.now c.loop-row.row-index _ low)) c.loop-row.invariant.put c.in_ok-put_row.ensures.put;
      fit = so_more IsRow c.args.rows.now c.loop-row.row-index _ (sym (slice_get-get_or c.args.rows.now c.loop-row.row-index _ low)) c.loop-row.invariant.fit
          c.in_ok-put_row.ensures.fits;
    }
