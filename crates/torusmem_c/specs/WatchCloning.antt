-- Another watch that has seen what one has, as C sees it (this project's own format).
use Rattle.std.specs.Prelude.{◌≡◌, ℕ, List, Option, Some, None}
use Rattle.std.specs.Global.{Global}
use Rattle.trace_laws.specs.declared.event.Event.{Event}
use Rattle.trace_watch.specs.declared.watch.Watch.{Watch}
use Rattle.trace_watch.specs.Follows.{Tracks}
use Rattle.trace_watch.specs.Watched.{watched}
use Rattle.torusmem_c.specs.declared.outcome.Outcome.{Outcome}
use Rattle.torusmem_c.specs.declared.outcome.Code.TheVariants as code
use Rattle.torusmem_c.specs.Outcome.{no_memory, c_outcome}

-- a watch that says what another one says, and follows whatever trace that one follows
pub record IsSameWatch (v w : Watch Global) : Type 0 where
  pub says : watched w ≡ watched v
  pub follows : (opening : List ℕ) (trace : List Event) → Tracks opening trace v
      → Tracks opening trace w

-- another handle holds the same watch; or none, since memory was refused
abbrev pub CopiesTo : Watch Global → Option (Watch Global) → Outcome → Type 0
CopiesTo v None r = r ≡ no_memory
CopiesTo v (Some w) r = IsSameWatch v w × (r ≡ c_outcome code.Done 0)

-- A call copies the watch of a handle to another handle. The first stays as it is, and so does the other
-- where it holds a watch, or the first none.
abbrev pub ClonesWatch : Option (Watch Global) → Option (Watch Global) → Option (Watch Global)
    → Option (Watch Global) → Outcome → Type 0
ClonesWatch old new (Some u) after r =
    (new ≡ old) × (after ≡ Some u) × (r ≡ c_outcome code.Full 0)
ClonesWatch None new None after r = (new ≡ None) × (after ≡ None) × (r ≡ c_outcome code.Empty 0)
ClonesWatch (Some v) new None after r = (new ≡ Some v) × CopiesTo v after r
