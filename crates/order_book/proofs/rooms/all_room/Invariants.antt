use Rattle.std.proofs.Common.{◌≡◌, take}
use Rattle.std.specs.Prelude.{sum_by}
use Rattle.script_lines.specs.Views.{lists_of}
use Rattle.script_lines.specs.Lines.{operation_count}
use Rattle.order_book.proofs.rooms.all_room.Given as goal

abbrev pub invariant-loop-script : goal.invariant-loop-script
invariant-loop-script g l = l.count ≡ sum_by operation_count (take l.script-index (lists_of l.scripts))
