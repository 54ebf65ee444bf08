-- A bank's entries, performed on the whole memory.
use Rattle.std.specs.Prelude.{◌≡◌, ℕ, ◌<◌, ◌≤◌, ◌%◌, List, length, map, All, slice_index}
use Rattle.packet.specs.declared.kinds.Operation.{Operation}
use Rattle.packet.specs.Memory.{memory_after, replies}
use Rattle.home_bank.specs.declared.entry.Entry.{Entry}

-- an entry's operation
abbrev pub entry_operation : Entry → Operation
entry_operation e = record { address = e.address; op = e.op }

-- the entries of a tile's bank replay on the memory: performed in order from the opening words they
-- give the
-- replies that the bank gave, and at each address that is at home in the bank they leave the word
-- that stands
-- there (Herlihy and Wing: a legal sequential history; and locality, for no other bank's words have
-- a part in it)
pub record ReplayInMemory (tiles tile : ℕ) (opening words : List ℕ) (entries : List Entry) : Type 0
  where
    pub size : length opening ≤ length words
    pub home : All (λ e. e.address % tiles ≡ tile) entries
    pub replies_given : map (λ e. e.reply) entries ≡ replies (map entry_operation entries) opening
    pub words_left : (a : ℕ) → a < length opening → a % tiles ≡ tile
        → slice_index words a ≡ slice_index (memory_after (map entry_operation entries) opening) a
