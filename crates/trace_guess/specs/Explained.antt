-- What is looked at where an order is checked.
use Rattle.std.specs.Prelude.{◌≡◌, ◌<◌, ◌≤◌, ℕ, List, Some, length, slice_get}
use Rattle.packet.specs.declared.kinds.Reply.{Reply}
use Rattle.trace_laws.specs.declared.event.Call.{Call}
use Rattle.trace_laws.specs.declared.event.Event.{Event}
use Rattle.trace_laws.specs.Traces.{TraceIssuesAt, TraceAnswersAt}

-- each operation of an order is issued at the event that stands in its place
abbrev pub AreIssued : List Event → List ℕ → List Call → Type 0
AreIssued events issues order = (x : ℕ) (c : Call) → slice_get order x ≡ Some c
    → (i : ℕ) × (slice_get issues x ≡ Some i) × TraceIssuesAt events i c

-- the operation of this number stands at place x of an order, and has this reply there
pub record IsPlacedAt (order : List Call) (told : List Reply) (id : ℕ) (reply : Reply) (x : ℕ) : Type 0
  where
    pub call : Call
    pub there : slice_get order x ≡ Some call
    pub number : call.id ≡ id
    pub answer : slice_get told x ≡ Some reply

-- it stands at a place before place h
abbrev pub StandsBelow : List Call → List Reply → ℕ → Reply → ℕ → Type 0
StandsBelow order told id reply h = (x : ℕ) × (x < h) × IsPlacedAt order told id reply x

-- what is answered before event k stands before place h
abbrev pub AreBelow : List Event → List Call → List Reply → ℕ → ℕ → Type 0
AreBelow events order told k h = (i id : ℕ) (reply : Reply) → i < k → TraceAnswersAt events i id reply
    → StandsBelow order told id reply h

-- of each event a place before which all stands that is answered before the event
abbrev pub AreHeights : List Event → List Call → List Reply → List ℕ → Type 0
AreHeights events order told heights = (k h : ℕ) → slice_get heights k ≡ Some h
    → AreBelow events order told k h

-- all that is answered stands before some place
abbrev pub AreAllBelow : List Event → List Call → List Reply → Type 0
AreAllBelow events order told = (h : ℕ) × AreBelow events order told (length events) h

-- event i has place x, and what is answered before it stands before that place
pub record IsBehindAnswered (heights places : List ℕ) (x i : ℕ) : Type 0 where
  pub height : ℕ
  pub there : slice_get heights i ≡ Some height
  pub low : height ≤ x
  pub place : slice_get places i ≡ Some x
