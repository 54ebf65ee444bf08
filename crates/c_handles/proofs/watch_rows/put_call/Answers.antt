use Rattle.c_handles.specs.WatchRows.{numbers_row, operation_row}
use Rattle.c_handles.proofs.WatchPut.{put_two}
use Rattle.c_handles.proofs.watch_rows.put_call.Goals as goal

pub returns : goal.returns
returns g c =
    put_two c.args.rows.now.items c.operation_row.result c.numbers_row.result (operation_row c.args.call.operation.op c.args.call.operation.address)
    (numbers_row 20 c.args.call.id 0) c.push.new.self.items c.push-2.new.self.items c.operation_row.ensures c.numbers_row.ensures
    c.in_ok-push.ensures.items c.in_ok-push-2.ensures.items
