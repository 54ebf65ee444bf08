use Rattle.std.proofs.Common.{◌<◌, length, Some, sym, ◌∙◌, ap, arith}
use Rattle.std.proofs.lemmas.Option.{slice_get-get_or}
use Rattle.trace_watch.specs.States.{config_of}
use Rattle.c_handles.specs.WatchRows.{config_rows}
use Rattle.c_handles.proofs.WatchPut.{put_said}
use Rattle.c_handles.proofs.watch_rows.put_states.Goals as goal

pub loop-i-preserved : goal.loop-i-preserved
loop-i-preserved g c =
    let l : c.loop-i.i < length c.args.states.now = omega arith in
    put_said config_rows (λ s. config_of s) c.args.states.now c.loop-i.i c.index-states-i.result c.args.rows.now.items c.loop-i.rows.items
    c.put_state.new.rows.items (slice_get-get_or c.args.states.now c.loop-i.i c.index-states-i.result l ∙ ap Some (sym c.index-states-i.is))
    c.loop-i.invariant c.in_ok-put_state.ensures
