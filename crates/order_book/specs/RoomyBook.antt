-- A book of events with the room that is reserved for it.
use Rattle.std.specs.Prelude.{◌≡◌, ℕ, ◌≤◌, List, length, slice_index}
use Rattle.one_order.specs.EventBook.{EventBook}

-- a book, and for how many numbers each of its lists has room: the issues of each processor, the
-- positions of each bank, and the rows (this project's own format)
pub record RoomyBook : Type 0 where
  pub book : EventBook
  pub issues : List ℕ
  pub positions : List ℕ
  pub rows : ℕ

-- no list has less room than before
pub record KeepsRoom (old new : RoomyBook) : Type 0 where
  pub issues : (p : ℕ) → slice_index old.issues p ≤ slice_index new.issues p
  pub positions : (b : ℕ) → slice_index old.positions b ≤ slice_index new.positions b
  pub rows : old.rows ≤ new.rows
  pub processors : length new.issues ≡ length old.issues
  pub banks : length new.positions ≡ length old.positions
