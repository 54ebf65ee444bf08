-- The operations of a trace that a part keeps, and their events.
use Rattle.std.specs.Prelude.{ℕ, Bool, false, List, filter, slice_get, unwrap_or}
use Rattle.trace_laws.specs.declared.event.Event.{Event}
use Rattle.trace_laws.specs.declared.event.Event.TheVariants.{Issue, Answer}

-- the number of an event's operation
abbrev pub id_of : Event → ℕ
id_of (Issue c) = c.id
id_of (Answer id reply) = id

-- whether an event's operation is kept
abbrev pub is_of_kept : List Bool → Event → Bool
is_of_kept kept e = unwrap_or (slice_get kept (id_of e)) false

-- the events of the operations that are kept, in their order
abbrev pub kept_events : List Bool → List Event → List Event
kept_events kept events = filter (is_of_kept kept) events
