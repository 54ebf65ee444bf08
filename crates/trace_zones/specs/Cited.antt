-- The events that a certificate cites: each issues an operation.
use Rattle.std.specs.Prelude.{ℕ, List, [], ◌∷◌, ◌++◌, Option, None, Some}
use Rattle.trace_zones.specs.declared.conflict.Before.{Before}
use Rattle.trace_zones.specs.declared.conflict.Before.TheVariants.{Times, Atomic, Opening}
use Rattle.trace_zones.specs.declared.conflict.Conflict.{Conflict}
use Rattle.trace_zones.specs.declared.conflict.Conflict.TheVariants.{Crossed, Early, Unwritten, Twice}

-- an event, if there is one
abbrev pub listed_event : Option ℕ → List ℕ
listed_event None = []
listed_event (Some event) = event ∷ []

-- where one set is seen before another, the event that issues what sees the first one; the opening
-- word has none
abbrev pub first_cited : Before → Option ℕ
first_cited (Times first second) = Some first
first_cited (Atomic event) = Some event
first_cited (Opening event) = None

-- and the event that issues what sees the second one
abbrev pub second_cited : Before → ℕ
second_cited (Times first second) = second
second_cited (Atomic event) = event
second_cited (Opening event) = event

-- the events that a certificate cites: of a zone the one that issues what may enter it, then those
-- that issue what sees it
abbrev pub cited_events : {A : Type 0} → Conflict A → List ℕ
cited_events (Crossed one other before behind) =
    listed_event one.entry ++ listed_event (first_cited before) ++ second_cited behind
    ∷ listed_event other.entry ++ listed_event (first_cited behind) ++ second_cited before ∷ []
cited_events (Early zone writer) = zone.reader ∷ writer ∷ []
cited_events (Unwritten zone) = zone.reader ∷ []
cited_events (Twice zone first second) = listed_event zone.entry ++ first ∷ second ∷ []
