-- Parts of a trace that no order explains.
use Rattle.std.specs.Prelude.{◌≡◌, ◌⊎◌, ◌+◌, ◌<◌, ℕ, List, Bool, length, take}
use Rattle.state_search.specs.declared.smallest.Ending.{Ending}
use Rattle.state_search.specs.declared.smallest.Ending.TheVariants.{Minimal, Spent}
use Rattle.state_search.specs.Parts.{IsKept, without}
use Rattle.trace_judge.specs.declared.undecided.Undecided.{Undecided}
use Rattle.trace_judge.specs.Stops.{IsOpen}
use Rattle.trace_judge.specs.Verdicts.{IsBadBeginning}
use Rattle.trace_laws.specs.declared.event.Event.{Event}
use Rattle.trace_laws.specs.Orders.{IsLinearizable}
use Rattle.trace_text.specs.Renumbered.{IsRenumbered}
use Rattle.trace_text.specs.Traced.{TraceSpec, opening_of}
use Rattle.trace_answer.specs.declared.smallest.SmallPart.{SmallPart}
use Rattle.trace_answer.specs.Kept.{kept_events}
use Rattle.trace_answer.specs.Leaving.{IsClosedPart}

-- the trace of the events of the operations that are kept
abbrev pub part_of : TraceSpec → List Bool → TraceSpec
part_of t kept = record t { events = kept_events kept t.events }

-- an order explains a trace
abbrev pub IsExplained : TraceSpec → Type 0
IsExplained t = IsLinearizable (opening_of t) t.events

-- whether an order explains some events isn't decided, for a reason that isn't memory, with so many
-- configurations of a word at once at most
abbrev pub IsUnshown : List ℕ → List Event → ℕ → Type 0
IsUnshown opening events bound = (why : Undecided) × IsOpen opening events bound why

-- whether an order explains a trace isn't decided over the words alone that it names
pub record IsOpenTrace (t : TraceSpec) (bound : ℕ) : Type 0 where
  pub opening : List ℕ
  pub events : List Event
  pub named : IsRenumbered t opening events
  pub unshown : IsUnshown opening events bound

-- a part keeps all that may have left what it found, and no order explains it
pub record PartBreaks (t : TraceSpec) (kept : List Bool) : Type 0 where
  pub closed : IsClosedPart t.issued t.events kept
  pub none : IsExplained (part_of t kept) → ⊥

-- a part doesn't, or an order explains it, or that isn't decided
abbrev pub PartStands : TraceSpec → ℕ → List Bool → Type 0
PartStands t bound kept = (IsClosedPart t.issued t.events kept → ⊥)
    ⊎ (IsExplained (part_of t kept) ⊎ IsOpenTrace (part_of t kept) bound)

-- why a part is no smaller: no single operation can be left out (Zeller and Hildebrandt, IEEE TSE
-- 28(2), 2002: 1-minimal), or as many parts were judged as may be
abbrev pub EndsSo : TraceSpec → ℕ → List Bool → ℕ → Ending → Type 0
EndsSo t bound kept judged Minimal =
    (k : ℕ) → IsKept kept k → PartStands t bound (without kept k)
EndsSo t bound kept judged Spent = judged ≡ 1000

-- a small part of a trace that no order explains
pub record IsSmallPart {A : Type 0} (t : TraceSpec) (bound : ℕ) (p : SmallPart A) : Type 0 where
  pub breaks : PartBreaks t p.kept.items
  pub ended : EndsSo t bound p.kept.items p.judged p.ending

-- no order explains a trace up to this event; one explains what comes before it, or that isn't decided
pub record IsBadEvent (opening : List ℕ) (trace : List Event) (bound event : ℕ) : Type 0 where
  pub none : IsBadBeginning opening trace (event + 1)
  pub first : IsLinearizable opening (take event trace) ⊎ IsUnshown opening trace bound

-- the first so many events of a trace
abbrev pub beginning_of : ℕ → TraceSpec → TraceSpec
beginning_of n t = record t { events = take n t.events }

-- no order explains a trace up to this event; one explains what comes before it, or that isn't
-- decided over the words alone that the trace names
pub record IsBrokenAt (t : TraceSpec) (bound event : ℕ) : Type 0 where
  pub there : event < length t.events
  pub none : IsExplained (beginning_of (event + 1) t) → ⊥
  pub first : IsExplained (beginning_of event t) ⊎ IsOpenTrace t bound
