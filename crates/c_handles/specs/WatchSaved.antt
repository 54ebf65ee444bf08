-- What bytes that a watch was saved as make, and why others make none (this project's own format).
use Rattle.std.specs.Prelude.{◌≡◌, ◌⊎◌, ℕ, List, Ok, Err}
use Rattle.trace_laws.specs.declared.event.Event.{Event}
use Rattle.trace_watch.specs.declared.watch.Watch.{Watch}
use Rattle.trace_watch.specs.Follows.{Tracks}
use Rattle.trace_watch.specs.Watched.{Watched, watched}
use Rattle.machine_record.specs.declared.reading.Unread.{Unread}
use Rattle.machine_record.specs.declared.reading.Unread.TheVariants.{Memory, At}
use Rattle.machine_record.specs.Reading.{record_in_bytes}
use Rattle.machine_record.specs.Recording.{Recording}
use Rattle.c_handles.specs.WatchRows.{AreNoWatch, IsSavedWatch, watch_recording}

-- a watch that bytes make: they are its own, and it says what each watch does that was saved as they are, and
-- follows whatever trace that one follows
pub record IsRestoredWatch {A : Type 0} (bs : List ℕ) (w : Watch A) : Type 0 where
  pub saved : IsSavedWatch bs (watched w)
  pub says : (v : Watch A) → IsSavedWatch bs (watched v) → watched w ≡ watched v
  pub follows : (v : Watch A) → IsSavedWatch bs (watched v) → (opening : List ℕ) (trace : List Event)
      → Tracks opening trace v → Tracks opening trace w

-- a record has no watch whose bytes these are
abbrev pub HasNoWatch : Recording → List ℕ → Type 0
HasNoWatch kept bs = (x : Watched) → kept ≡ watch_recording x → IsSavedWatch bs x → ⊥

-- where bytes are no watch's: what stands there is no record's; or they are a record's, which has no watch,
-- and this is the place behind its head
abbrev pub IsWrongAt : List ℕ → ℕ → Type 0
IsWrongAt bs place = (record_in_bytes bs ≡ Err place)
    ⊎ ((place ≡ 48) × ((r : Recording) × (record_in_bytes bs ≡ Ok r)))

-- why bytes make no watch: memory was refused, or they are no watch's, by what stands at a place
abbrev pub IsUnreadWatch : List ℕ → Unread → Type 0
IsUnreadWatch bs Memory = Unit {0}
IsUnreadWatch bs (At place) = AreNoWatch bs × IsWrongAt bs place
