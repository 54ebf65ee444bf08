-- Channels and queues that packets of one flit, each of a transaction, fill.
use Rattle.std.proofs.Common.{◌≡◌, inl, inr, ℕ, ◌<◌, ◌≤◌, Bool, true, false, List, [], ◌∙◌, ap}
use Rattle.std.proofs.Common.{arith}
use Rattle.std.proofs.lemmas.Bool.{cases_lt}
use Rattle.wormhole.specs.Net.{Net}
use Rattle.wormhole.specs.State.{NetLine, empty_line}
use Rattle.network_judge.specs.Table.{Table, kind_of, table_next, is_receiver}
use Rattle.network_judge.specs.TableNet.{Flits, table_network}
use Rattle.network_judge.specs.Replies.{AreReplies}
use Rattle.network_judge.specs.Ways.{place}
use Rattle.network_judge.specs.declared.fill.Fill.{Fill}
use Rattle.network_judge.specs.Jams.{fill_channel, ComesIn}
use Rattle.network_judge.specs.LockUps.{HasOneFlitPackets}
use Rattle.network_judge.proofs.Lines.{line_of, full}
use Rattle.network_judge.proofs.Still.{before_end}
use Rattle.deadlock_laws.specs.Endpoints.{Endpoints, Owing}
use Rattle.deadlock_laws.specs.CircularJams.{GoesOnTo}
use Rattle.deadlock_laws.specs.Transactions.{IsComposed}
use Rattle.deadlock_laws.proofs.ClassMoves.{entries}

-- a network with endpoints, tables of its transactions, and packets of one flit, one to each ejection channel
pub record Setting : Type 0 where
  pub table : Table
  pub ends : Endpoints
  pub whole : Table
  pub leg : ℕ → ℕ → ℕ
  pub are : AreReplies table ends.replies
  pub composed : IsComposed table ends whole leg
  pub roomy : (x : ℕ) → 0 < ends.room x
  pub number : ℕ → ℕ
  pub top : ℕ
  pub depth : ℕ
  pub flits : Flits
  pub deep : 0 < depth
  pub tells : HasOneFlitPackets table flits

abbrev pub net : Setting → Net
net it = table_network it.table it.number it.top it.depth it.flits

module _ (it : Setting) where
  abbrev n : Net
  n = net it

  -- the flit of a transaction to j on channel x
  abbrev pub word : ℕ → ℕ → ℕ
  word x j = it.tells.word (it.leg x j)

  -- a channel, and its queue, where a packet is alone; and where they are full
  abbrev pub lone : Bool → ℕ → NetLine
  lone true w = empty_line n
  lone false w = line_of n false 1 w

  abbrev pub lone_queue : Bool → ℕ → List Owing
  lone_queue true y = entries 1 y
  lone_queue false y = []

  abbrev pub full_queue : Bool → ℕ → ℕ → List Owing
  full_queue true x y = entries (it.ends.room x) y
  full_queue false x y = []

  abbrev pub full_line : ℕ → ℕ → NetLine
  full_line x j = line_of n (n.ejects x) (full n (n.ejects x)) (word x j)

  abbrev pub queue_full : ℕ → ℕ → List Owing
  queue_full x j = full_queue (n.ejects x) x (table_next it.whole x j)

  -- before its end a transaction is at no ejection channel of c
  pub is_open : (f : Fill) (fs : List Fill) (e : ℕ) → ComesIn it.whole f fs → GoesOnTo it.whole f e → is_receiver (kind_of it.whole (fill_channel it.whole f)) ≡ false
  is_open f fs e come waits = before_end it.whole f.from f.to come.length come.way f.step (elim (cases_lt f.step come.length) [
    | inl low ↦ low
    | inr high ↦ (let on = come.on in absurd (waits.under_way (ap (place it.whole f.to f.from) (same f.step come.length on high) ∙ come.way.arrives)))
  ])
    where
      same : (a b : ℕ) → a ≤ b → b ≤ a → a ≡ b
      same a b l h = omega arith
