-- What bytes and records make, and why they make nothing.
use Rattle.std.specs.Prelude.{◌≡◌, ◌⊎◌, ℕ, List, [], Option, None, Some, Ok, Err}
use Rattle.std.specs.Str.Lines.{lines}
use Rattle.machine_parts.specs.Core.{Load}
use Rattle.machine_core.specs.Loading.{load_by}
use Rattle.machine_asked.specs.Asked.{Asked}
use Rattle.machine_record.specs.Recording.{Recording, fresh_record}
use Rattle.machine_record.specs.Reading.{record_in_bytes}
use Rattle.machine_record.specs.declared.restoring.Unrestored.{Unrestored}
use Rattle.machine_record.specs.declared.restoring.Unrestored.TheVariants as why
use Rattle.machine_record.specs.Machine.{Recorded}
use Rattle.machine_record.specs.Replay.{loaded, made_by}
use Rattle.machine_record.specs.Replayed.{StopsAtAction}

-- the machine that a record's texts are loaded to
pub record IsLoaded (kept : Recording) (v : Asked) : Type 0 where
  pub load : Load
  pub texts : load_by (lines kept.machine) (lines kept.scripts) ≡ Ok load
  pub is : v ≡ loaded load

-- a machine with this record, which makes it
pub record IsMadeAgain (kept : Recording) (v : Recorded) : Type 0 where
  pub made : made_by kept ≡ Some v.asked
  pub keeps : v.kept ≡ Some kept

-- a machine with the record of a machine text, before anything is done; it has no scripts
pub record IsFreshCall (v : Recorded) : Type 0 where
  pub text : List ℕ
  pub made : IsMadeAgain (fresh_record text []) v

-- a machine that goes on behind another: it keeps a record, in which nothing is done so far, where the other
-- one keeps a record, and else none
abbrev pub RecordsAnew : Option Recording → Recorded → Type 0
RecordsAnew None v = v.kept ≡ None
RecordsAnew (Some before) v = IsFreshCall v

-- the action of a number can't be done, where those before it can
pub record Stops (kept : Recording) (at : ℕ) : Type 0 where
  pub load : Load
  pub texts : load_by (lines kept.machine) (lines kept.scripts) ≡ Ok load
  pub stops : StopsAtAction kept.rows kept.actions (loaded load) at

-- why a record makes no machine: memory was refused, an action can't be done, or a text has a fault
abbrev pub IsUnmade : Recording → Unrestored → Type 0
IsUnmade kept why.Memory = Unit {0}
IsUnmade kept (why.At place) = ⊥
IsUnmade kept (why.Action at) = Stops kept at
IsUnmade kept (why.Text f) = load_by (lines kept.machine) (lines kept.scripts) ≡ Err f

-- a machine that bytes make
pub record IsRestored (bs : List ℕ) (v : Recorded) : Type 0 where
  pub kept : Recording
  pub read : record_in_bytes bs ≡ Ok kept
  pub made : IsMadeAgain kept v

-- why bytes are no record's: memory was refused, or this place has what is none's
abbrev pub IsUnread : List ℕ → Unrestored → Type 0
IsUnread bs why.Memory = Unit {0}
IsUnread bs (why.At place) = record_in_bytes bs ≡ Err place
IsUnread bs (why.Action at) = ⊥
IsUnread bs (why.Text f) = ⊥

-- bytes are those of a record that makes no machine
pub record IsUnmadeOf (bs : List ℕ) (why : Unrestored) : Type 0 where
  pub kept : Recording
  pub read : record_in_bytes bs ≡ Ok kept
  pub unmade : IsUnmade kept why

-- why bytes make no machine
abbrev pub IsUnrestored : List ℕ → Unrestored → Type 0
IsUnrestored bs why = IsUnread bs why ⊎ IsUnmadeOf bs why
