use Rattle.std.proofs.Common.{[], ◌∷◌, refl, ap}
use Rattle.std.specs.List.{flat_map}
use Rattle.trace_watch.specs.States.{configs_of}
use Rattle.machine_record.specs.declared.row.LineRow.{LineRow}
use Rattle.c_handles.specs.WatchRows.{config_rows}
use Rattle.c_handles.proofs.WatchPut.{put_pair}
use Rattle.c_handles.proofs.watch_rows.put_word.Goals as goal

pub returns : goal.returns
returns g c =
    put_pair c.args.rows.now.items (flat_map config_rows (configs_of c.args.states.now)) (c.numbers_row.result ∷ [])
    (flat_map config_rows (configs_of c.args.states.now)) _ c.put_states.new.rows.items c.push.new.self.items refl
    (ap (λ (x : LineRow). x ∷ []) c.numbers_row.ensures) c.in_ok-put_states.ensures c.in_ok-push.ensures.items
