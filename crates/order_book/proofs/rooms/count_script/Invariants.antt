use Rattle.std.proofs.Common.{◌≡◌, ◌+◌, ◌<◌, ℕ, take, slice_index}
use Rattle.std.specs.Prelude.{sum_by}
use Rattle.one_order.specs.Homes.{line_home_count}
use Rattle.order_book.proofs.rooms.count_script.Given as goal

-- each count has risen by that of the lines so far
abbrev pub invariant-loop-line : goal.invariant-loop-line
invariant-loop-line l = (b : ℕ) → b < l.tiles
    → slice_index l.rooms b ≡ slice_index l.fn.rooms b + sum_by (line_home_count l.tiles b) (take l.line-index l.lines)
