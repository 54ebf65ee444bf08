-- Networks whose packets all have so many flits, and whether they can deadlock.
-- Dally and Towles, Principles and Practices of Interconnection Networks, 2004, chapters 12 to 14.
use Rattle.std.specs.Prelude.{◌≡◌, ℕ, true, false, Some, List, [], ◌∷◌, length, All}
use Rattle.wormhole.specs.Net.{Net, has_no_flit, net_flits}
use Rattle.wormhole.specs.Events.{NetEvent, InjectHead}
use Rattle.network_judge.specs.declared.table.Kind.TheVariants.{Ejection}
use Rattle.network_judge.specs.declared.table.Reply.{Reply}
use Rattle.network_judge.specs.Table.{Table, kind_of}
use Rattle.network_judge.specs.TableNet.{Flits, table_network}
use Rattle.network_judge.specs.declared.table.Verdict.{Verdict}
use Rattle.network_judge.specs.declared.table.Verdict.TheVariants.{Rising, NoRoute, Cycle}
use Rattle.network_judge.specs.LockUps.{IsLockUp}

-- a packet that a sender begins has so many flits; other events begin none
abbrev pub HasLength : ℕ → NetEvent → Type 0
HasLength size (InjectHead x k) = length (net_flits k) ≡ size
HasLength size _ = Unit {0}

-- a run with packets of so many flits alone, after which the network is deadlocked (Dally and
-- Towles, chapter 14)
pub record IsLockUpOf (n : Net) (replies : List Reply) (size : ℕ) (events : List NetEvent) : Type 0
  where
    pub locks : IsLockUp n replies events
    pub lengths : All (HasLength size) events

-- a network whose channels hold so many flits of this format can deadlock with packets of so many
-- flits alone, whatever numbers its channels are given
abbrev pub LocksUpOf : Table → List Reply → ℕ → Flits → ℕ → Type 0
LocksUpOf t replies depth flits size = (number : ℕ → ℕ) (top : ℕ)
    → (events : List NetEvent)
    × IsLockUpOf (table_network t number top depth flits) replies size events

-- the flits of a packet behind its head flit, if any: none has the head bit, and the last alone has
-- the tail bit (Dally and Towles, chapter 12)
abbrev pub AreBehindHead : Flits → List ℕ → Type 0
AreBehindHead flits [] = Unit {0}
AreBehindHead flits (w ∷ ws) =
    (flits.is_head w ≡ false) × (flits.is_tail w ≡ has_no_flit ws) × AreBehindHead flits ws

-- a format has packets of so many flits to each ejection channel: a head flit, which tells where it
-- goes, and those behind it (Dally and Towles, chapter 12)
pub record HasPacketsOf (t : Table) (flits : Flits) (size : ℕ) : Type 0 where
  pub first : ℕ → ℕ
  pub others : ℕ → List ℕ
  pub long : (j : ℕ) → kind_of t j ≡ Some Ejection → length (first j ∷ others j) ≡ size
  pub head : (j : ℕ) → kind_of t j ≡ Some Ejection → flits.is_head (first j) ≡ true
  pub told : (j : ℕ) → kind_of t j ≡ Some Ejection → flits.told (first j) ≡ j
  pub alone : (j : ℕ) → kind_of t j ≡ Some Ejection
      → flits.is_tail (first j) ≡ has_no_flit (others j)
  pub behind : (j : ℕ) → kind_of t j ≡ Some Ejection → AreBehindHead flits (others j)

-- what a verdict means for packets of so many flits: with rising numbers no run of them deadlocks
-- the network, with a cycle one does
abbrev pub SettlesLength : {A : Type 0} → Table → ℕ → Flits → ℕ → Verdict A → Type 0
SettlesLength t depth flits size (Rising numbers) = LocksUpOf t [] depth flits size → ⊥
SettlesLength t depth flits size (NoRoute r) = Unit {0}
SettlesLength t depth flits size (Cycle links) = LocksUpOf t [] depth flits size
