use Rattle.std.proofs.Common.{◌≡◌, ◌≤◌, ◌<◌, ℕ, [], Some, length, map, replicate, slice_get, slice_index, vec_capacity}
use Rattle.order_book.proofs.book.empty_lists.Given as goal

-- the lists so far are empty, and have the room of their places
abbrev pub invariant-loop-room : goal.invariant-loop-room
invariant-loop-room g l = record {
  within : l.room-index ≤ length l.rooms;
  empty : map (λ list. list.items) l.lists.items ≡ replicate l.room-index [];
  room : (k room : ℕ) → k < l.room-index → slice_get l.rooms k ≡ Some room → room ≤ slice_index (map (λ list. vec_capacity list) l.lists.items) k;
}
