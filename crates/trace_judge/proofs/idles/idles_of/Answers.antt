use Rattle.std.proofs.Common.{◌<◌, length, arith}
use Rattle.std.proofs.lemmas.Option.{slice_get-get_or}
use Rattle.trace_judge.proofs.Calm.{low_more, listed_more}
use Rattle.trace_judge.proofs.idles.idles_of.Goals as goal
use Rattle.trace_judge.proofs.idles.idles_of.Goals.{in-Some+in_ok-push, in_default}

pub loop-slot-preserved : goal.loop-slot-preserved
loop-slot-preserved g c =
    let l : c.loop-slot.slot < length c.args.table.now = omega arith in
    elim c.match-idle_in.branch [
      | in-Some+in_ok-push w ↦ rw w.idles-is (record {
        low = low_more c.loop-slot.idles.items w.push.new.self.items w.in-Some.idle
            (let e = w.in-Some.ensures.0 in omega arith) w.in_ok-push.ensures.items c.loop-slot.invariant.low;
        listed = listed_more c.args.table.now c.args.address c.loop-slot.slot _ c.loop-slot.idles.items w.push.new.self.items w.in-Some.idle
            (slice_get-get_or c.args.table.now c.loop-slot.slot _ l) w.in-Some.ensures w.in_ok-push.ensures.items
            c.loop-slot.invariant.listed;
      })
      | in_default w ↦ rw w.idles-is c.loop-slot.invariant
    ]
