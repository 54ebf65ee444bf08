-- Replies: who takes packets from an ejection channel answers them on an injection channel.
use Rattle.std.specs.Prelude.{◌≡◌, ℕ, ◌<◌, Some, List, length, slice_index_or}
use Rattle.network_judge.specs.declared.table.Kind.TheVariants.{Injection, Ejection}
use Rattle.network_judge.specs.declared.table.Reply.{Reply}
use Rattle.network_judge.specs.Table.{Table, kind_of}

-- the reply at a place of the list
abbrev pub reply_at : List Reply → ℕ → Reply
reply_at replies p = slice_index_or replies p (record { from = 0; to = 0 })

-- packets from channel x are answered on channel y (Dally and Towles, chapter 14)
pub record IsReply (replies : List Reply) (x y : ℕ) : Type 0 where
  pub place : ℕ
  pub here : place < length replies
  pub from : (reply_at replies place).from ≡ x
  pub to : (reply_at replies place).to ≡ y

-- each is from an ejection channel to an injection channel
abbrev pub AreReplies : Table → List Reply → Type 0
AreReplies t replies =
    (x y : ℕ) → IsReply replies x y → (kind_of t x ≡ Some Ejection) × (kind_of t y ≡ Some Injection)

-- over each reply the number rises (Dally and Towles, chapter 14)
abbrev pub RiseOver : List Reply → (ℕ → ℕ) → Type 0
RiseOver replies number = (x y : ℕ) → IsReply replies x y → number x < number y
