use Rattle.std.proofs.Common.{◌<◌, length, sym}
use Rattle.std.proofs.lemmas.Option.{slice_get-get_or}
use Rattle.machine_record.specs.Bytes.{half_bytes}
use Rattle.machine_record.specs.Widths.{IsHalf}
use Rattle.machine_record.proofs.Pieces.{put_more, so_more}
use Rattle.machine_record.proofs.bytes.put_actions.Goals as goal

pub loop-action-preserved : goal.loop-action-preserved
loop-action-preserved g c =
    let low : c.loop-action.action-index < length c.args.actions.now = c.loop-action-test.true in
    record {
      put = put_more half_bytes c.args.actions.now c.loop-action.action-index _ c.args.bytes.now.items c.loop-action.bytes.items c.put_half.new.bytes.items
          (sym (slice_get-get_or c.args.actions.now c.loop-action.action-index _ low)) c.loop-action.invariant.put c.in_ok-put_half.ensures.put;
      fit = so_more IsHalf c.args.actions.now c.loop-action.action-index _ (sym (slice_get-get_or c.args.actions.now c.loop-action.action-index _ low)) c.loop-action.invariant.fit
          c.in_ok-put_half.ensures.fits;
    }
