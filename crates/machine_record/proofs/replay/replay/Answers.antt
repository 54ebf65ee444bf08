use Rattle.std.proofs.Common.{◌<◌, length, sym, arith}
use Rattle.std.proofs.lemmas.Option.{slice_get-get_or}
use Rattle.machine_record.proofs.Replays.{came_true, done_more}
use Rattle.machine_record.proofs.replay.replay.Goals as goal

pub loop-number-preserved : goal.loop-number-preserved
loop-number-preserved g c =
    let low : c.loop-number.number-index < length c.args.actions.now = c.loop-number-test.true in
    record {
      place = omega arith;
      came = done_more c.args.rows.now c.args.machine.now c.loop-number.machine c.act_by.new.machine c.args.actions.now c.loop-number.number-index _
          c.loop-number.invariant.came (sym (slice_get-get_or c.args.actions.now c.loop-number.number-index _ low))
          (came_true _ c.act_by.new.machine c.in_ok-act_by.field-0 c.if-not-branch.false c.in_ok-act_by.ensures);
    }
