use Rattle.std.proofs.Common.{◌≡◌, ◌+◌, ◌≤◌, ℕ, List, arith, take, slice_index}
use Rattle.std.specs.Prelude.{sum_by}
use Rattle.script_lines.specs.declared.line.Line.{Line}
use Rattle.script_lines.specs.declared.line.Line.TheVariants.{Load}
use Rattle.script_lines.specs.Lines.{operation_count}
use Rattle.one_order.specs.Homes.{line_home_count}
use Rattle.order_book.proofs.Counts.{count_more, count_within, script_home_within}
use Rattle.order_book.proofs.rooms.count_script.Goals as goal

pub count_line-requires-clause-few : goal.count_line-requires-clause-few
count_line-requires-clause-few c = λ b below.
    let lines : List Line = c.args.lines.now in
    let i : ℕ = c.loop-line.line-index in
    let m = count_more lines i (Load 0) c.loop-line-test.true in
    let w = count_within lines (i + 1) in
    let s = script_home_within c.args.tiles b (take i lines) in
    let v : slice_index c.loop-line.rooms b ≡ slice_index c.args.rooms.now b + sum_by (line_home_count c.args.tiles b) (take i lines) =
    c.loop-line.invariant b below in
    let few : slice_index c.args.rooms.now b + operation_count lines ≤ 65536 = c.requires.few b below in
    omega arith
