use Rattle.std.proofs.Common.{◌≡◌, ◌≤◌, ◌+◌, List, arith, take, ◌∙◌, ap}
use Rattle.std.specs.Prelude.{sum_by}
use Rattle.std.proofs.lemmas.List.{take_all}
use Rattle.script_lines.specs.declared.line.Line.{Line}
use Rattle.script_lines.specs.declared.line.Line.TheVariants.{Load}
use Rattle.script_lines.specs.Lines.{operations_of, operation_count}
use Rattle.order_book.proofs.Counts.{count_more, count_within}
use Rattle.order_book.proofs.rooms.operation_count.Goals as goal

pub overflow_add-count : goal.overflow_add-count
overflow_add-count c =
    let m = count_more c.args.lines.now c.loop-line.line-index (Load 0) c.loop-line-test.true in
    let w = count_within c.args.lines.now (c.loop-line.line-index + 1) in
    let i : c.loop-line.count ≡ sum_by operations_of (take c.loop-line.line-index c.args.lines.now) = c.loop-line.invariant in
    let few : operation_count c.args.lines.now ≤ 65536 = c.requires in
    omega (arith, c.operations.ensures)

pub returns : goal.returns
returns c =
    c.loop-line.invariant ∙ ap (λ (ls : List Line). sum_by operations_of ls) (take_all c.loop-line.line-index c.args.lines.now c.loop-line-test.false)
