-- What a check of a jam finds, channel by channel.
use Rattle.std.specs.Prelude.{◌≡◌, ◌≢◌, ℕ, ◌+◌, ◌-◌, ◌<◌, ◌≤◌, true, false, Bool, List, length}
use Rattle.std.specs.Prelude.{drop, slice_index, slice_index_or}
use Rattle.network_judge.specs.declared.table.Reply.{Reply}
use Rattle.network_judge.specs.Table.{Table, channels_of, table_next}
use Rattle.network_judge.specs.Ways.{place}
use Rattle.network_judge.specs.Marks.{is_marked_at}
use Rattle.network_judge.specs.Replies.{IsReply}
use Rattle.network_judge.specs.declared.fill.Fill.{Fill}
use Rattle.network_judge.specs.Jams.{fill_channel, is_filled, AreFilledInTurn}

-- a walk of so many steps to channel x, over channels that have marks, none of them set, and past no
-- receiver
pub record IsClearWalk (t : Table) (marks : List Bool) (from to steps x : ℕ) : Type 0 where
  pub here : x ≡ place t to from steps
  pub inside : (k : ℕ) → k ≤ steps → place t to from k < length marks
  pub clear : (k : ℕ) → k ≤ steps → is_marked_at marks (place t to from k) ≡ false
  pub goes_on : (k : ℕ) → k < steps → place t to from k ≢ to

-- packets in channel x to a receiver wait for a marked channel: their next one, or at the receiver
-- one on which they are answered
pub record WaitsForMarked (t : Table) (replies : List Reply) (marks : List Bool) (to x : ℕ) : Type 0
  where
    pub under_way : x ≢ to → is_marked_at marks (table_next t x to) ≡ true
    pub at_end : x ≡ to → (y : ℕ) × IsReply replies to y × (is_marked_at marks y ≡ true)

-- the item at a place
abbrev pub fill_at : List Fill → ℕ → Fill
fill_at fs k = slice_index_or fs k (record { from = 0; to = 0; step = 0 })

-- the items from a place on are filled in turn, their channels marked, and listed from the last on
pub record AreFillsMarked (t : Table) (fs : List Fill) (from : ℕ) (marks : List Bool)
    (ends : List ℕ) : Type 0 where
  pub size : length marks ≡ channels_of t
  pub count : length ends + from ≡ length fs
  pub marked : (x : ℕ) → is_marked_at marks x ≡ is_filled t (drop from fs) x
  pub in_turn : AreFilledInTurn t (drop from fs)
  pub places : (k : ℕ) → from ≤ k → k < length fs
      → slice_index ends (length fs - 1 - k) ≡ fill_channel t (fill_at fs k)
