use Rattle.std.proofs.Common.{◌≡◌, take}
use Rattle.std.specs.Prelude.{sum_by}
use Rattle.script_lines.specs.Lines.{operations_of}
use Rattle.order_book.proofs.rooms.operation_count.Given as goal

abbrev pub invariant-loop-line : goal.invariant-loop-line
invariant-loop-line l = l.count ≡ sum_by operations_of (take l.line-index l.lines)
