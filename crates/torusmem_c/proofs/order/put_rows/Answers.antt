use Rattle.std.proofs.Common.{◌≡◌, ◌<◌, List, length, map, slice_get, Some, None, arith}
use Rattle.one_order.specs.declared.ordered.Ordered.{Ordered}
use Rattle.torusmem_c.specs.declared.order.OrderedRecord.{OrderedRecord}
use Rattle.torusmem_c.specs.Orders.{ordered_record}
use Rattle.torusmem_c.proofs.Fronts.{made_at, puts_more}
use Rattle.torusmem_c.proofs.order.put_rows.Goals as goal

pub loop-at-preserved : goal.loop-at-preserved
loop-at-preserved c =
    let records : List OrderedRecord = map ordered_record c.args.rows.now in
    let room = c.if-count-out.false in
    let test = c.loop-at-test.true in
    let size = c.loop-at.invariant.size in
    let low : c.loop-at.at < length c.loop-at.out = omega (arith, room, test, size) in
    let none : Ordered = record { bank = 0; place = 0; source = 0; index = 0; issued = 0; served = 0; answered = None } in
    let made = made_at ordered_record c.args.rows.now c.loop-at.at none test in
    let put = c.ordered_record.ensures in
    let there : slice_get records c.loop-at.at ≡ Some c.ordered_record.result = cc in
    let more = puts_more records c.args.out.now c.loop-at.out c.loop-at.at c.ordered_record.result there size low c.loop-at.invariant.records in
    record { size = more.0; records = more.1 }
