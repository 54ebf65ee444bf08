-- What zones show of a trace.
use Rattle.std.specs.Prelude.{◌<◌, ℕ, List, length, slice_index}
use Rattle.trace_laws.specs.declared.event.Event.{Event}
use Rattle.trace_zones.specs.Conflicts.{IsConflict}
use Rattle.trace_zones.specs.declared.found.Shown.{Shown}
use Rattle.trace_zones.specs.declared.found.Shown.TheVariants.{Conflict, Listing, Nothing}

-- a certificate of a word that no order explains the trace; of the others nothing is said
abbrev pub TellsLook : {A : Type 0} → List ℕ → List Event → Shown A → Type 0
TellsLook opening trace (Conflict w why) =
    (w < length opening) × IsConflict (slice_index opening w) trace w why
TellsLook opening trace (Listing listing) = Unit {0}
TellsLook opening trace Nothing = Unit {0}
