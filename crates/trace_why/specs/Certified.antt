-- What a certificate says of a trace text.
use Rattle.std.specs.Prelude.{◌≡◌, ◌<◌, ◌≤◌, ◌+◌, ℕ, List, Option, Some, Ok, MatchOption, length}
use Rattle.std.specs.Prelude.{slice_get, slice_index, take}
use Rattle.packet.specs.declared.kinds.Reply.{Reply}
use Rattle.trace_laws.specs.declared.event.Call.{Call}
use Rattle.trace_laws.specs.Orders.{IsLinearizable}
use Rattle.trace_laws.specs.Traces.{TraceIssuesAt, TraceAnswersAt}
use Rattle.trace_text.specs.Traced.{TraceSpec, opening_of, trace_of}
use Rattle.trace_zones.specs.Cited.{cited_events}
use Rattle.trace_zones.specs.Conflicts.{IsConflict}
use Rattle.trace_zones.specs.declared.conflict.Conflict.{Conflict}
use Rattle.trace_why.specs.declared.certified.AnswerLine.{AnswerLine}
use Rattle.trace_why.specs.declared.certified.ConflictSentence.{ConflictSentence}
use Rattle.trace_why.specs.declared.certified.OperationLine.{OperationLine}
use Rattle.trace_why.specs.Told.{IsLineOf}

-- an event before event k, at this line, answers the operation of this number so
pub record IsAnswerLine (t : TraceSpec) (k id : ℕ) (a : AnswerLine) : Type 0 where
  pub early : a.event < k
  pub answer : TraceAnswersAt t.events a.event id a.reply
  pub there : slice_get t.lines a.event ≡ Some a.line

-- the lines that issue the operation of an event, and answer it before event k, if one does
pub record IsOperationLine (t : TraceSpec) (k event : ℕ) (o : OperationLine) : Type 0 where
  pub call : Call
  pub named : o.event ≡ event
  pub issue : TraceIssuesAt t.events event call
  pub line : IsLineOf t (record { event = event; call = call }) o.issue
  pub answer : MatchOption o.answer
      ((i : ℕ) (reply : Reply) → event ≤ i → i < k → TraceAnswersAt t.events i call.id reply → ⊥)
      (IsAnswerLine t k call.id)

-- the lines of the operations of some events
pub record AreOperationLines (t : TraceSpec) (k : ℕ) (events : List ℕ) (found : List OperationLine)
    : Type 0 where
  pub sized : length found ≡ length events
  pub each : (n event : ℕ) (o : OperationLine) → slice_get events n ≡ Some event
      → slice_get found n ≡ Some o → IsOperationLine t k event o

-- a certificate of the word at an address holds in the first k events, and no order explains them
pub record IsCertified {A : Type 0} (t : TraceSpec) (k address : ℕ) (why : Conflict A) : Type 0
  where
    pub inside : address < t.words
    pub within : k ≤ length t.events
    pub holds : IsConflict (slice_index (opening_of t) address) (take k t.events) address why
    pub none : IsLinearizable (opening_of t) (take k t.events) → ⊥

-- a certificate holds in the events up to that of this line, and the operations that it cites are
-- told by their lines
pub record TellsConflict {A : Type 0} (lines : List (List ℕ)) (line : ℕ) (s : ConflictSentence A)
    : Type 0 where
  pub trace : TraceSpec
  pub read : trace_of lines ≡ Ok trace
  pub event : ℕ
  pub there : slice_get trace.lines event ≡ Some line
  pub named : s.line ≡ line
  pub holds : IsCertified trace (event + 1) s.address s.why
  pub cited : AreOperationLines trace (event + 1) (cited_events s.why) s.cited.items
