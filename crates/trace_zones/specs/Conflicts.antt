-- Certificates that no order explains a trace: where zones are seen, by the events of the operations.
use Rattle.std.specs.Prelude.{◌≡◌, ◌<◌, ℕ, Bool, true, false, List, Option, None, Some}
use Rattle.packet.specs.declared.kinds.Reply.{Reply}
use Rattle.trace_laws.specs.declared.event.Call.{Call}
use Rattle.trace_laws.specs.declared.event.Event.{Event}
use Rattle.trace_laws.specs.Traces.{TraceIssuesAt, TraceAnswersAt, IsAnswered}
use Rattle.trace_zones.specs.Zones.{MayEnter, IsZone, AreApartSets, FindsSet, LeavesSet, IsSetLeft}
use Rattle.trace_zones.specs.Zones.{IsSource, SeesSet, is_listed}
use Rattle.trace_zones.specs.declared.conflict.Before.{Before}
use Rattle.trace_zones.specs.declared.conflict.Before.TheVariants.{Times, Atomic, Opening}
use Rattle.trace_zones.specs.declared.conflict.Conflict.{Conflict}
use Rattle.trace_zones.specs.declared.conflict.Conflict.TheVariants.{Crossed, Early, Unwritten, Twice}

-- no operation may enter the set but the one that this event issues
abbrev pub EntersOnly : List Event → ℕ → (ℕ → Bool) → Option ℕ → Type 0
EntersOnly trace w set entry = (i : ℕ) (c : Call) → TraceIssuesAt trace i c → MayEnter trace w set c
    → entry ≡ Some i

-- event i issues an operation that was answered and found the set
abbrev pub IsSetReader : List Event → ℕ → (ℕ → Bool) → ℕ → Type 0
IsSetReader trace w set i = (c : Call) × TraceIssuesAt trace i c × IsAnswered trace c.id × FindsSet trace w set c

-- that was answered and left a word of the set
abbrev pub IsSetLeaver : List Event → ℕ → (ℕ → Bool) → ℕ → Type 0
IsSetLeaver trace w set i = (c : Call) × TraceIssuesAt trace i c × IsAnswered trace c.id × LeavesSet trace w set c

-- that was answered, found the set and left another word
abbrev pub IsSetLeftBy : List Event → ℕ → (ℕ → Bool) → ℕ → Type 0
IsSetLeftBy trace w set i = (c : Call) × TraceIssuesAt trace i c × IsAnswered trace c.id × IsSetLeft trace w set c

-- the only one that may enter the set, which was found
abbrev pub IsSetWriter : ℕ → List Event → ℕ → (ℕ → Bool) → ℕ → Type 0
IsSetWriter initial trace w set i = (c : Call) × TraceIssuesAt trace i c × IsSource initial trace w set c

-- that sees the set
abbrev pub IsSetWitness : ℕ → List Event → ℕ → (ℕ → Bool) → ℕ → Type 0
IsSetWitness initial trace w set i = (c : Call) × TraceIssuesAt trace i c × SeesSet initial trace w set c

-- event i issues an operation that is answered before event j
abbrev pub IsOverBefore : List Event → ℕ → ℕ → Type 0
IsOverBefore trace i j = (c : Call) × TraceIssuesAt trace i c
    × ((k : ℕ) × (reply : Reply) × (k < j) × TraceAnswersAt trace k c.id reply)

-- the first set is seen before the second, by what is issued at these events
abbrev pub IsBefore : ℕ → List Event → ℕ → (ℕ → Bool) → (ℕ → Bool) → Before → Type 0
IsBefore initial trace w one other (Times first second) = IsOverBefore trace first second
    × IsSetWitness initial trace w one first × IsSetWitness initial trace w other second
IsBefore initial trace w one other (Atomic event) =
    IsSetReader trace w one event × IsSetLeaver trace w other event
IsBefore initial trace w one other (Opening event) =
    (one initial ≡ true) × IsSetWitness initial trace w other event

-- what a certificate says of word w, which begins as this word
abbrev pub IsConflict : {A : Type 0} → ℕ → List Event → ℕ → Conflict A → Type 0
IsConflict initial trace w (Crossed one other before behind) =
    IsZone initial trace w (is_listed one.words.items)
    × IsZone initial trace w (is_listed other.words.items)
    × AreApartSets (is_listed one.words.items) (is_listed other.words.items)
    × IsBefore initial trace w (is_listed one.words.items) (is_listed other.words.items) before
    × IsBefore initial trace w (is_listed other.words.items) (is_listed one.words.items) behind
IsConflict initial trace w (Early zone writer) =
    IsSetReader trace w (is_listed zone.words.items) zone.reader
    × IsSetWriter initial trace w (is_listed zone.words.items) writer
    × IsOverBefore trace zone.reader writer
IsConflict initial trace w (Unwritten zone) =
    IsSetReader trace w (is_listed zone.words.items) zone.reader
    × (is_listed zone.words.items initial ≡ false)
    × EntersOnly trace w (is_listed zone.words.items) None
IsConflict initial trace w (Twice zone first second) =
    IsZone initial trace w (is_listed zone.words.items)
    × IsSetLeftBy trace w (is_listed zone.words.items) first
    × IsSetLeftBy trace w (is_listed zone.words.items) second
    × (first ≡ second → ⊥)
