-- Where the flit in a latch goes, and which receivers can't answer.
use Rattle.std.specs.Prelude.{◌≡◌, ◌≢◌, ℕ, ◌<◌, true, false, List, length, Some, slice_index_or}
use Rattle.network_judge.specs.declared.table.Reply.{Reply}
use Rattle.network_judge.specs.Replies.{IsReply, reply_at}
use Rattle.network_judge.specs.Table.{Table, kind_of, table_next, is_receiver}
use Rattle.network_judge.specs.declared.table.Kind.TheVariants.{Ejection}
use Rattle.network_judge.specs.LockUps.{plain_format}
use Rattle.network_machine.specs.declared.channel.Channel.{Channel}

-- a channel that another one owns, with a credit
pub record IsOwnedBy (cs : List Channel) (x y : ℕ) : Type 0 where
  pub here : y < length cs
  pub apart : x ≢ y
  pub owner : (d : Channel) → (slice_index_or cs y d).owner ≡ Some x
  pub credit : (d : Channel) → 0 < (slice_index_or cs y d).held

-- the router's choice behind channel x for a head flit, or a channel that x owns, for another one
pub record IsOutputOf (t : Table) (cs : List Channel) (x flit y : ℕ) : Type 0 where
  pub there : y < length cs
  pub apart : x ≢ y
  pub head : plain_format.is_head flit ≡ true → y ≡ table_next t x (plain_format.told flit)
  pub rest : plain_format.is_head flit ≡ false → IsOwnedBy cs x y

-- a flit has none
pub record HasNoOutput (t : Table) (cs : List Channel) (x flit : ℕ) : Type 0 where
  pub head : plain_format.is_head flit ≡ true → x < length t.kinds
      → kind_of t (plain_format.told flit) ≡ Some Ejection
      → table_next t x (plain_format.told flit) < length cs
      → x ≢ table_next t x (plain_format.told flit) → ⊥
  pub rest : plain_format.is_head flit ≡ false → (y : ℕ) → IsOwnedBy cs x y → ⊥

-- a flit stands in the latch behind channel x, which is no ejection channel
pub record IsLatched (t : Table) (cs : List Channel) (x flit : ℕ) : Type 0 where
  pub here : x < length cs
  pub input : is_receiver (kind_of t x) ≡ false
  pub full : (d : Channel) → (slice_index_or cs x d).latch ≡ Some flit

-- the output of the flit in the latch behind channel x
abbrev pub IsWayOut : Table → List Channel → ℕ → ℕ → ℕ → Type 0
IsWayOut t cs x flit y = IsLatched t cs x flit × IsOutputOf t cs x flit y

-- a channel on which packets from channel x are answered, without a credit
pub record LacksAnswer (replies : List Reply) (cs : List Channel) (x y : ℕ) : Type 0 where
  pub reply : IsReply replies x y
  pub here : y < length cs
  pub none : (d : Channel) → (slice_index_or cs y d).held ≡ 0

-- the reply at a place is not of channel x, or has a credit
abbrev pub LacksNoAnswer : List Reply → List Channel → ℕ → ℕ → Type 0
LacksNoAnswer replies cs x p = (reply_at replies p).from ≡ x → (d : Channel)
    → (reply_at replies p).to < length cs → 0 < (slice_index_or cs (reply_at replies p).to d).held

-- no reply lacks a credit
abbrev pub HasAnswers : List Reply → List Channel → ℕ → Type 0
HasAnswers replies cs x = (y : ℕ) (d : Channel) → IsReply replies x y → y < length cs
    → 0 < (slice_index_or cs y d).held
