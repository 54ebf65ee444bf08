use Rattle.c_handles.specs.WatchRows.{operation_row, reply_row}
use Rattle.c_handles.proofs.WatchPut.{put_two}
use Rattle.c_handles.proofs.watch_rows.put_effect.Goals as goal

pub returns : goal.returns
returns g c =
    put_two c.args.rows.now.items c.operation_row.result c.reply_row.result (operation_row c.args.effect.op 0)
    (reply_row c.args.effect.reply c.args.effect.newest) c.push.new.self.items c.push-2.new.self.items c.operation_row.ensures c.reply_row.ensures
    c.in_ok-push.ensures.items c.in_ok-push-2.ensures.items
