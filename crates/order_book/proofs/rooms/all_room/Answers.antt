use Rattle.std.proofs.Common.{◌≡◌, ◌≤◌, ◌+◌, arith, take, ap}
use Rattle.std.specs.Prelude.{sum_by}
use Rattle.std.proofs.lemmas.List.Sums.{sum_by-take-le}
use Rattle.script_lines.specs.Views.{lists_of}
use Rattle.script_lines.specs.Lines.{operation_count, total_count}
use Rattle.order_book.proofs.Counts.{lists_more}
use Rattle.order_book.proofs.rooms.all_room.Given.{Over}
use Rattle.order_book.proofs.rooms.all_room.Goals as goal

pub operation_count-count-requires : goal.operation_count-count-requires
operation_count-count-requires g c =
    let m = lists_more operation_count c.args.scripts.now c.loop-script.script-index c.script-item.result c.loop-script-test.true c.script-item.is in
    let w = sum_by-take-le operation_count (lists_of c.args.scripts.now) (c.loop-script.script-index + 1) in
    let v = ap operation_count c.as_slice.ensures.value in
    let few : total_count (lists_of c.args.scripts.now) ≤ 65536 = c.requires in
    omega arith

-- the count with one script more is that of one more
counted : (g : Over) (c : goal.After-operation_count-count g) →
    c.loop-script.count + c.operation_count-count.result ≡ sum_by operation_count (take (c.loop-script.script-index + 1) (lists_of c.args.scripts.now))
counted g c =
    let m = lists_more operation_count c.args.scripts.now c.loop-script.script-index c.script-item.result c.loop-script-test.true c.script-item.is in
    let v = ap operation_count c.as_slice.ensures.value in
    let i : c.loop-script.count ≡ sum_by operation_count (take c.loop-script.script-index (lists_of c.args.scripts.now)) = c.loop-script.invariant in
    omega (arith, c.operation_count-count.ensures)

pub overflow_add-count : goal.overflow_add-count
overflow_add-count g c =
    let w = sum_by-take-le operation_count (lists_of c.args.scripts.now) (c.loop-script.script-index + 1) in
    let few : total_count (lists_of c.args.scripts.now) ≤ 65536 = c.requires in
    omega (arith, counted g c)

pub loop-script-preserved : goal.loop-script-preserved
loop-script-preserved g c = counted g c
