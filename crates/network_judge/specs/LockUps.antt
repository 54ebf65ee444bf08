-- Networks that can deadlock: a run after which packets are under way, and nothing can go.
-- Dally and Towles, Principles and Practices of Interconnection Networks, 2004, chapter 14.
use Rattle.std.specs.Prelude.{◌≡◌, ◌≢◌, ℕ, ◌<◌, ◌/◌, ◌%◌, ◌==◌, true, List, [], Some}
use Rattle.wormhole.specs.Net.{Net}
use Rattle.wormhole.specs.State.{empty, in_line}
use Rattle.wormhole.specs.Events.{NetEvent, CanAllHappen, after_all}
use Rattle.network_judge.specs.declared.table.Reply.{Reply}
use Rattle.network_judge.specs.declared.table.Kind.TheVariants.{Ejection}
use Rattle.network_judge.specs.Table.{Table, kind_of}
use Rattle.network_judge.specs.TableNet.{Flits, table_network}
use Rattle.network_judge.specs.declared.table.Verdict.{Verdict}
use Rattle.network_judge.specs.declared.table.Verdict.TheVariants.{Rising, NoRoute, Cycle}
use Rattle.network_judge.specs.Receivers.{GoesWhere}

-- a run from the empty network after which a flit stands in a channel or in the latch behind it,
-- and nothing can go: no router, no sender with a packet in course, no credit, and no receiver that
-- can answer (Dally and Towles, chapter 14: a deadlock)
pub record IsLockUp (n : Net) (replies : List Reply) (events : List NetEvent) : Type 0 where
  pub may : CanAllHappen n (empty n) events
  pub still : GoesWhere n (after_all n (empty n) events) replies ⊥
  pub stuck : ℕ
  pub here : stuck < n.channels
  pub stands : in_line ((after_all n (empty n) events).lines stuck) ≢ []

-- a network whose channels hold so many flits of this format can deadlock, whatever numbers its
-- channels are given
abbrev pub LocksUp : Table → List Reply → ℕ → Flits → Type 0
LocksUp t replies depth flits = (number : ℕ → ℕ) (top : ℕ)
    → (events : List NetEvent) × IsLockUp (table_network t number top depth flits) replies events

-- a format has packets of one flit to each ejection channel
pub record HasOneFlitPackets (t : Table) (flits : Flits) : Type 0 where
  pub word : ℕ → ℕ
  pub head : (j : ℕ) → kind_of t j ≡ Some Ejection → flits.is_head (word j) ≡ true
  pub tail : (j : ℕ) → kind_of t j ≡ Some Ejection → flits.is_tail (word j) ≡ true
  pub told : (j : ℕ) → kind_of t j ≡ Some Ejection → flits.told (word j) ≡ j

-- a format (this project's own): the last bit is the tail bit, the one before it the head bit, and
-- before them stands the ejection channel
abbrev pub plain_format : Flits
plain_format = record {
  is_head = λ w. w / 2 % 2 == 1;
  is_tail = λ w. w % 2 == 1;
  told = λ w. w / 4;
}

-- what a verdict means for deadlocks: with rising numbers there is none, with a cycle there is one
abbrev pub SettlesLockUps : {A : Type 0} → Table → List Reply → ℕ → Flits → Verdict A → Type 0
SettlesLockUps t replies depth flits (Rising numbers) = LocksUp t replies depth flits → ⊥
SettlesLockUps t replies depth flits (NoRoute r) = Unit {0}
SettlesLockUps t replies depth flits (Cycle links) = LocksUp t replies depth flits
