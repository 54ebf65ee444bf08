-- Machines that keep a record of what is done to them, their bytes, and machines that bytes make
-- (this project's own format).
use Rattle.std.specs.Prelude.{◌≡◌, ◌⊎◌, ℕ, List, Option, Some, None}
use Rattle.machine_record.specs.Bytes.{record_bytes}
use Rattle.machine_record.specs.Recording.{Recording, fresh_record}
use Rattle.machine_record.specs.Calls.{IsFreshCall, IsRestored, IsUnrestored, RecordsAnew}
use Rattle.machine_record.specs.Machine.{AreAlikeMachines, Recorded}
use Rattle.machine_record.specs.declared.restoring.Unrestored.{Unrestored}
use Rattle.machine_record.specs.declared.restoring.Unrestored.TheVariants as why
use Rattle.torusmem_c.specs.declared.outcome.Outcome.{Outcome}
use Rattle.torusmem_c.specs.declared.outcome.Code.TheVariants as code
use Rattle.torusmem_c.specs.Outcome.{c_outcome, fault_outcome, no_memory}
use Rattle.torusmem_c.specs.Room.{LacksMemory, put_outcome, put_over}

-- a machine that was loaded into an empty handle keeps a record of its two texts alone
abbrev pub KeepsFresh : List ℕ → List ℕ → Option Recorded → Option Recorded → Type 0
KeepsFresh machine scripts (Some v) new = Unit {0}
KeepsFresh machine scripts None None = Unit {0}
KeepsFresh machine scripts None (Some v) = v.kept ≡ Some (fresh_record machine scripts)

-- a machine that was opened into an empty handle keeps a record of a machine text, which makes it
abbrev pub KeepsOpened : Option Recorded → Option Recorded → Type 0
KeepsOpened (Some v) new = Unit {0}
KeepsOpened None None = Unit {0}
KeepsOpened None (Some v) = IsFreshCall v

-- A machine that goes on in an empty handle keeps a record of what is done to it where the one before it keeps
-- one. A handle that isn't empty stays as it is.
abbrev pub RecordsOn : Option Recorded → Option Recorded → Option Recorded → Type 0
RecordsOn before (Some held) after = after ≡ Some held
RecordsOn before None None = Unit {0}
RecordsOn None None (Some w) = ⊥
RecordsOn (Some v) None (Some w) = RecordsAnew v.kept w

-- the bytes of a record are put into a buffer, and make the machine again
pub record PutsRecord (v : Recorded) (kept : Recording) (before after : List ℕ) (r : Outcome)
    : Type 0 where
  pub back : IsRestored (record_bytes kept) v
  pub buffer : after ≡ put_over (record_bytes kept) before
  pub answer : r ≡ put_outcome (record_bytes kept) before

-- a machine without a record has no bytes, and the answer says so
pub record LacksRecord (before after : List ℕ) (r : Outcome) : Type 0 where
  pub buffer : after ≡ before
  pub answer : r ≡ c_outcome code.NoRecord 0

-- either, unless memory is refused
abbrev pub PutsKept : Recorded → Option Recording → List ℕ → List ℕ → Outcome → Type 0
PutsKept v None before after r = LacksRecord before after r ⊎ LacksMemory before after r
PutsKept v (Some kept) before after r =
    PutsRecord v kept before after r ⊎ LacksMemory before after r

-- a call puts the record of a handle's machine into a buffer, and the handle stays as it is; where
-- it holds no machine the answer says so
abbrev pub Saves : List ℕ → List ℕ → Option Recorded → Option Recorded → Outcome → Type 0
Saves before after None new r = (new ≡ None) × (after ≡ before) × (r ≡ c_outcome code.Empty 0)
Saves before after (Some v) new r = (new ≡ Some v) × PutsKept v v.kept before after r

-- why bytes make no machine, as C sees it
abbrev pub unrestored_outcome : Unrestored → Outcome
unrestored_outcome why.Memory = no_memory
unrestored_outcome (why.At place) = c_outcome code.BadRecord place
unrestored_outcome (why.Action at) = c_outcome code.BadAction at
unrestored_outcome (why.Text f) = fault_outcome f

-- what an empty handle holds once bytes are restored: the machine that they make; or nothing, and the
-- answer says why they make none
abbrev pub RestoresEmpty : List ℕ → Option Recorded → Outcome → Type 0
RestoresEmpty bs None r = (why : Unrestored) × IsUnrestored bs why × (r ≡ unrestored_outcome why)
RestoresEmpty bs (Some v) r = IsRestored bs v × (r ≡ c_outcome code.Done 0)

-- what a handle holds once bytes are restored: what RestoresEmpty says, if it held nothing; where a
-- machine is held already, it stays, and the answer says so
abbrev pub Restores : List ℕ → Option Recorded → Option Recorded → Outcome → Type 0
Restores bs None new r = RestoresEmpty bs new r
Restores bs (Some v) new r = (new ≡ Some v) × (r ≡ c_outcome code.Full 0)

-- another handle holds the same machine with the same record; or none, where there is no record, or
-- memory was refused
abbrev pub ClonesTo : Recorded → Option Recorded → Outcome → Type 0
ClonesTo v (Some u) r = AreAlikeMachines u v × (r ≡ c_outcome code.Done 0)
ClonesTo v None r = ((v.kept ≡ None) × (r ≡ c_outcome code.NoRecord 0)) ⊎ (r ≡ no_memory)

-- a call copies the machine of a handle with its record to another handle; the first stays as it
-- is, and so does the other where it holds a machine, or the first none
abbrev pub Clones : Option Recorded → Option Recorded → Option Recorded → Option Recorded → Outcome
    → Type 0
Clones old new (Some u) after r =
    (new ≡ old) × (after ≡ Some u) × (r ≡ c_outcome code.Full 0)
Clones None new None after r = (new ≡ None) × (after ≡ None) × (r ≡ c_outcome code.Empty 0)
Clones (Some v) new None after r = (new ≡ Some v) × ClonesTo v after r
