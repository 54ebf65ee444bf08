use Rattle.std.proofs.Common.{◌≡◌, ◌+◌, ◌≤◌, arith, ap, take, slice_index}
use Rattle.std.specs.Prelude.{sum_by}
use Rattle.std.proofs.lemmas.List.{get_or-replicate}
use Rattle.std.proofs.lemmas.List.Sums.{sum_by-take-le}
use Rattle.script_lines.specs.Views.{lists_of}
use Rattle.script_lines.specs.Lines.{operation_count, total_count}
use Rattle.one_order.specs.Homes.{script_home_count}
use Rattle.order_book.proofs.Counts.{lists_more, home_within}
use Rattle.order_book.proofs.rooms.home_rooms.Goals as goal

pub loop-script-init : goal.loop-script-init
loop-script-init g c = λ b below. let few : c.args.tiles ≤ 64 = c.requires.tiles in get_or-replicate 64 b 0 0 (omega arith)

pub count_script-requires-clause-few : goal.count_script-requires-clause-few
count_script-requires-clause-few g c = λ b below.
    let m = lists_more operation_count c.args.scripts.now c.loop-script.script-index c.script-item.result c.loop-script-test.true c.script-item.is in
    let w = sum_by-take-le operation_count (lists_of c.args.scripts.now) (c.loop-script.script-index + 1) in
    let v = ap operation_count c.as_slice.ensures.value in
    let few : total_count (lists_of c.args.scripts.now) ≤ 65536 = c.requires.few in
    let i : slice_index c.loop-script.rooms b ≡ sum_by (script_home_count c.args.tiles b) (take c.loop-script.script-index (lists_of c.args.scripts.now)) =
    c.loop-script.invariant b below in
    omega (arith, home_within c.args.tiles b (take c.loop-script.script-index (lists_of c.args.scripts.now)))

pub loop-script-preserved : goal.loop-script-preserved
loop-script-preserved g c = λ b below.
    let m = lists_more (script_home_count c.args.tiles b) c.args.scripts.now c.loop-script.script-index c.script-item.result c.loop-script-test.true
    c.script-item.is in
    let v = ap (script_home_count c.args.tiles b) c.as_slice.ensures.value in
    let i : slice_index c.loop-script.rooms b ≡ sum_by (script_home_count c.args.tiles b) (take c.loop-script.script-index (lists_of c.args.scripts.now)) =
    c.loop-script.invariant b below in
    let e : slice_index c.count_script.new.rooms b ≡ slice_index c.loop-script.rooms b + script_home_count c.args.tiles b c.as_slice.result.now =
    c.count_script.ensures b below in
    omega arith
