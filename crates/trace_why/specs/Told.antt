-- What the sentences on a trace without an order say.
use Rattle.std.specs.Prelude.{◌≡◌, ℕ, List, Some, Ok, length, slice_get}
use Rattle.trace_text.specs.declared.issued.Issued.{Issued}
use Rattle.trace_text.specs.Traced.{TraceSpec, trace_of}
use Rattle.trace_why.specs.declared.calls.CallAt.{CallAt}
use Rattle.trace_why.specs.declared.sentence.IssueLine.{IssueLine}
use Rattle.trace_why.specs.declared.sentence.NoOrderSentence.{NoOrderSentence}
use Rattle.trace_why.specs.Why.{TellsWhyNot}

-- the line that issues an operation, its processor, and how many of this one were issued before
pub record IsLineOf (t : TraceSpec) (c : CallAt) (l : IssueLine) : Type 0 where
  pub line : slice_get t.lines c.event ≡ Some l.line
  pub known : Issued
  pub issued : slice_get t.issued c.call.id ≡ Some known
  pub processor : l.processor ≡ known.processor
  pub index : l.index ≡ known.index
  pub operation : l.operation ≡ c.call.operation

-- the lines that issue some operations, each with its processor and how many of this one were
-- issued before
pub record AreLinesOf (t : TraceSpec) (calls : List CallAt) (found : List IssueLine) : Type 0 where
  pub sized : length found ≡ length calls
  pub each : (n : ℕ) (c : CallAt) (l : IssueLine) → slice_get calls n ≡ Some c
      → slice_get found n ≡ Some l → IsLineOf t c l

-- an event of this line of a text is told, and how each operation is issued that is open there
pub record TellsNoOrder {A : Type 0} (lines : List (List ℕ)) (line : ℕ) (s : NoOrderSentence A)
    : Type 0 where
  pub trace : TraceSpec
  pub read : trace_of lines ≡ Ok trace
  pub event : ℕ
  pub there : slice_get trace.lines event ≡ Some line
  pub named : s.line ≡ line
  pub why : TellsWhyNot trace event s.why
  pub issues : AreLinesOf trace s.why.pending.items s.pending.items
