use Rattle.std.proofs.Common.{◌≡◌, ◌<◌, ℕ, take, slice_index}
use Rattle.std.specs.Prelude.{sum_by}
use Rattle.script_lines.specs.Views.{lists_of}
use Rattle.one_order.specs.Homes.{script_home_count}
use Rattle.order_book.proofs.rooms.home_rooms.Given as goal

-- each count is that of the scripts so far
abbrev pub invariant-loop-script : goal.invariant-loop-script
invariant-loop-script g l = (b : ℕ) → b < l.tiles → slice_index l.rooms b ≡ sum_by (script_home_count l.tiles b) (take l.script-index (lists_of l.scripts))
