-- Circular jams: channels that can be filled one after the other, each of whose packets wait for the
-- channel that was filled just before it, and those of the first one for the last.
-- Dally and Seitz, Deadlock-free message routing in multiprocessor interconnection networks, 1987.
use Rattle.std.specs.Prelude.{◌≡◌, ◌≢◌, ℕ, ◌<◌, List, [], ◌∷◌, length}
use Rattle.network_judge.specs.Table.{Table, table_next}
use Rattle.network_judge.specs.declared.fill.Fill.{Fill}
use Rattle.network_judge.specs.Jams.{fill_channel, AreFilledInTurn}

-- the channel that the first of a list fills, or another one where the list is empty
abbrev pub head_channel : Table → List Fill → ℕ → ℕ
head_channel t [] e = e
head_channel t (f ∷ fs) e = fill_channel t f

-- the packets in a filled channel go on to channel y, before their end (Dally and Seitz: they wait
-- for it)
pub record GoesOnTo (t : Table) (f : Fill) (y : ℕ) : Type 0 where
  pub under_way : fill_channel t f ≢ f.to
  pub next : table_next t (fill_channel t f) f.to ≡ y

-- the packets in each channel wait for that of the next one of the list, and those in the last
-- channel for channel e
abbrev pub WaitInTurn : Table → List Fill → ℕ → Type 0
WaitInTurn t [] e = Unit {0}
WaitInTurn t (f ∷ fs) e = GoesOnTo t f (head_channel t fs e) × WaitInTurn t fs e

-- a circular jam, the last of the list to be filled first (Dally and Seitz: each waits for a channel
-- that another holds, all around)
pub record IsCircularJam (t : Table) (fs : List Fill) : Type 0 where
  pub some : 0 < length fs
  pub in_turn : AreFilledInTurn t fs
  pub waits : WaitInTurn t fs (head_channel t fs 0)
