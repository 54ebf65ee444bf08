use Rattle.std.proofs.Common.{List, refl, ap}
use Rattle.std.specs.List.{flat_map}
use Rattle.trace_watch.specs.States.{Config}
use Rattle.trace_watch.specs.Watched.{watched}
use Rattle.trace_watch.proofs.Copies.{all_configs}
use Rattle.c_handles.specs.WatchRows.{call_rows, last_rows, word_rows}
use Rattle.c_handles.proofs.WatchPut.{put_all}
use Rattle.c_handles.proofs.watch_rows.rows_of.Goals as goal

pub returns : goal.returns
returns g c =
    put_all c.new-rows.result.items (flat_map word_rows (all_configs c.deref.result.now)) (flat_map call_rows c.deref-2.result.now)
    (last_rows c.args.watch.now.last) (flat_map word_rows (watched c.args.watch.now).words) (flat_map call_rows c.args.watch.now.pending.items)
    (last_rows c.args.watch.now.last) c.put_words.new.rows.items c.put_calls.new.rows.items c.put_last.new.rows.items c.new-rows.ensures.items
    (ap (λ (ws : List (List Config)). flat_map word_rows ws) (ap all_configs c.deref.ensures.value)) (ap (flat_map call_rows) c.deref-2.ensures.value)
    refl c.in_ok-put_words.ensures c.in_ok-put_calls.ensures c.in_ok-put_last.ensures
