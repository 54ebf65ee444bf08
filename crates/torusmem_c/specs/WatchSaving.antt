-- A watch as bytes, and the watch that bytes make, as C sees it (this project's own format).
use Rattle.std.specs.Prelude.{◌≡◌, ◌⊎◌, ◌+◌, ◌==◌, ℕ, List, Option, Some, None, if◌then◌else◌}
use Rattle.std.specs.Global.{Global}
use Rattle.trace_watch.specs.declared.watch.Watch.{Watch}
use Rattle.trace_watch.specs.Watched.{Watched, watched}
use Rattle.machine_record.specs.declared.reading.Unread.{Unread}
use Rattle.machine_record.specs.declared.reading.Unread.TheVariants.{Memory, At}
use Rattle.c_handles.specs.WatchRows.{IsSavedWatch}
use Rattle.c_handles.specs.WatchSaved.{IsRestoredWatch, IsUnreadWatch}
use Rattle.torusmem_c.specs.declared.outcome.Outcome.{Outcome}
use Rattle.torusmem_c.specs.declared.outcome.Code.TheVariants as code
use Rattle.torusmem_c.specs.Outcome.{no_memory, c_outcome}
use Rattle.torusmem_c.specs.Room.{LacksMemory, put_outcome, put_over}

-- the bytes of what a watch says are put into a buffer
pub record PutsWatch (x : Watched) (before after : List ℕ) (r : Outcome) : Type 0 where
  pub bytes : List ℕ
  pub saved : IsSavedWatch bytes x
  pub buffer : after ≡ put_over bytes before
  pub answer : r ≡ put_outcome bytes before

-- a call puts the bytes of a handle's watch into a buffer, unless memory is refused, and the handle stays as
-- it is; where it holds no watch the answer says so
abbrev pub SavesWatch : List ℕ → List ℕ → Option (Watch Global) → Option (Watch Global) → Outcome
    → Type 0
SavesWatch before after None new r =
    (new ≡ None) × (after ≡ before) × (r ≡ c_outcome code.Empty 0)
SavesWatch before after (Some v) new r = (new ≡ Some v)
    × (PutsWatch (watched v) before after r ⊎ LacksMemory before after r)

-- why bytes make no watch, as C sees it
abbrev pub unread_outcome : Unread → Outcome
unread_outcome Memory = no_memory
unread_outcome (At place) = c_outcome code.BadRecord place

-- the lowest number that is free behind the newest one; the highest of all where none is free
abbrev pub next_number : Option ℕ → ℕ
next_number None = 0
next_number (Some number) =
    if number == 18446744073709551615 then number else number + 1

-- what an empty handle holds once bytes are restored: the watch that they make, and the answer tells the number
-- of its next operation; or nothing, and the answer says why they make none
abbrev pub RestoresToWatch : List ℕ → Option (Watch Global) → Outcome → Type 0
RestoresToWatch bs None r = (why : Unread) × IsUnreadWatch bs why × (r ≡ unread_outcome why)
RestoresToWatch bs (Some w) r =
    IsRestoredWatch bs w × (r ≡ c_outcome code.Done (next_number w.last))

-- what a handle holds once bytes are restored: what RestoresToWatch says, if it held nothing; where a watch is
-- held already, it stays, and the answer says so
abbrev pub RestoresWatch : List ℕ → Option (Watch Global) → Option (Watch Global) → Outcome → Type 0
RestoresWatch bs None new r = RestoresToWatch bs new r
RestoresWatch bs (Some v) new r = (new ≡ Some v) × (r ≡ c_outcome code.Full 0)
