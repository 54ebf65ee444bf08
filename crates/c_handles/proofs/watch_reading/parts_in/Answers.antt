use Rattle.std.proofs.Common.{◌<◌, ◌≤◌, List, length, sym, ◌∙◌, ap, arith}
use Rattle.std.proofs.lemmas.List.{at_drop_all}
use Rattle.std.proofs.lemmas.Option.{slice_get-get_or}
use Rattle.machine_record.specs.declared.row.LineRow.{LineRow}
use Rattle.c_handles.specs.Views.{parts_of}
use Rattle.c_handles.specs.WatchReading.{Parts, after_rows}
use Rattle.c_handles.proofs.WatchBack.{row_taken}
use Rattle.c_handles.proofs.watch_reading.parts_in.Goals as goal

pub loop-place-init : goal.loop-place-init
loop-place-init g c = ap (λ (p : Parts). after_rows p c.args.rows.now) c.none-parts.ensures

pub loop-place-preserved : goal.loop-place-preserved
loop-place-preserved g c =
    let l : c.loop-place.place < length c.args.rows.now = omega arith in
    row_taken (parts_of c.loop-place.parts) (parts_of c.take.new.self) c.args.rows.now c.loop-place.place _ _
    (slice_get-get_or c.args.rows.now c.loop-place.place _ l) c.in_ok-take.ensures c.loop-place.invariant

pub returns : goal.returns
returns g c =
    let end : length c.args.rows.now ≤ c.loop-place.place = omega arith in
    sym (at_drop_all (λ (rows : List LineRow). after_rows (parts_of c.loop-place.parts) rows) c.args.rows.now c.loop-place.place end)
    ∙ c.loop-place.invariant
