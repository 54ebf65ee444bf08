-- Jams: channels that can be filled one after the other, so that each waits for another of them.
-- Dally and Seitz, Deadlock-free message routing in multiprocessor interconnection networks, 1987.
use Rattle.std.specs.Prelude.{◌≡◌, ◌≢◌, ℕ, ◌<◌, ◌≤◌, ◌==◌, if◌then◌else◌, Bool, true, false}
use Rattle.std.specs.Prelude.{List, [], ◌∷◌, length, All}
use Rattle.network_judge.specs.declared.table.Reply.{Reply}
use Rattle.network_judge.specs.Table.{Table, joins_of, table_next}
use Rattle.network_judge.specs.Ways.{place, IsWay}
use Rattle.network_judge.specs.Replies.{IsReply}
use Rattle.network_judge.specs.declared.fill.Fill.{Fill}

-- the channel that is filled
abbrev pub fill_channel : Table → Fill → ℕ
fill_channel t f = place t f.to f.from f.step

-- whether one of the filled channels is this one
abbrev pub is_filled : Table → List Fill → ℕ → Bool
is_filled t [] x = false
is_filled t (f ∷ fs) x = if fill_channel t f == x then true else is_filled t fs x

-- packets come to their channel: it is on their route, and neither it nor a channel before it is
-- filled so far
pub record ComesIn (t : Table) (f : Fill) (filled : List Fill) : Type 0 where
  pub joined : joins_of t f.from f.to ≡ true
  pub length : ℕ
  pub way : IsWay t f.from f.to length
  pub on : f.step ≤ length
  pub clear : (k : ℕ) → k ≤ f.step → is_filled t filled (place t f.to f.from k) ≡ false

-- the last of the list is filled first, and each comes in once those behind it are filled
abbrev pub AreFilledInTurn : Table → List Fill → Type 0
AreFilledInTurn t [] = Unit {0}
AreFilledInTurn t (f ∷ fs) = ComesIn t f fs × AreFilledInTurn t fs

-- the packets of a channel wait for a filled channel: the next one of their route, or at its end
-- one on which they are answered (Dally and Seitz: each waits for a channel that another holds)
pub record WaitsForFilled (t : Table) (replies : List Reply) (fs : List Fill) (f : Fill) : Type 0
  where
    pub under_way : fill_channel t f ≢ f.to
        → is_filled t fs (table_next t (fill_channel t f) f.to) ≡ true
    pub at_end : fill_channel t f ≡ f.to
        → (y : ℕ) × IsReply replies f.to y × (is_filled t fs y ≡ true)

-- a jam: some channels, the last to be filled first, each of which waits for another
pub record IsJam (t : Table) (replies : List Reply) (fs : List Fill) : Type 0 where
  pub some : 0 < length fs
  pub in_turn : AreFilledInTurn t fs
  pub waits : All (WaitsForFilled t replies fs) fs
