use Rattle.std.proofs.Common.{List, [], ◌∷◌, map, ap}
use Rattle.std.specs.List.{flat_map}
use Rattle.machine_record.specs.declared.row.LineRow.{LineRow}
use Rattle.c_handles.specs.WatchRows.{effect_rows, glimpse_row}
use Rattle.c_handles.proofs.WatchPut.{put_three}
use Rattle.c_handles.proofs.watch_rows.put_state.Goals as goal

pub returns : goal.returns
returns g c =
    put_three c.args.rows.now.items (flat_map effect_rows c.deref.result.now) (map glimpse_row c.deref-2.result.now) (c.numbers_row.result ∷ [])
    (flat_map effect_rows c.args.state.now.effects.items) (map glimpse_row c.args.state.now.seen.items) _ c.put_effects.new.rows.items
    c.put_glimpses.new.rows.items c.push.new.self.items (ap (flat_map effect_rows) c.deref.ensures.value) (ap (map glimpse_row) c.deref-2.ensures.value)
    (ap (λ (x : LineRow). x ∷ []) c.numbers_row.ensures) c.in_ok-put_effects.ensures c.in_ok-put_glimpses.ensures c.in_ok-push.ensures.items
