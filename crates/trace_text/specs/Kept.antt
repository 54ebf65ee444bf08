-- What the lines of a trace text leave true of what they gave.
use Rattle.std.specs.Prelude.{◌≡◌, ◌<◌, ◌≤◌, ◌^◌, ℕ, List, Some, length, slice_get}
use Rattle.packet.specs.declared.kinds.Reply.{Reply}
use Rattle.trace_laws.specs.declared.event.Call.{Call}
use Rattle.trace_laws.specs.Traces.{IsTrace, TraceIssuesAt, TraceAnswersAt, WasIssuedBefore}
use Rattle.trace_lines.specs.Head.{value_in}
use Rattle.trace_text.specs.declared.issued.Issued.{Issued}
use Rattle.trace_text.specs.IssueNumbers.{numbers_of}
use Rattle.trace_text.specs.Traced.{TraceReading}

-- the operation of this number is known as it was issued
abbrev pub IsKnownAs : List Issued → Call → Type 0
IsKnownAs issued call = (k : Issued) × (slice_get issued call.id ≡ Some k)
    × (k.operation ≡ call.operation)

-- the operation of this number is known with its reply
abbrev pub IsRepliedTo : List Issued → ℕ → Reply → Type 0
IsRepliedTo issued id reply = (k : Issued) × (slice_get issued id ≡ Some k) × (k.reply ≡ Some reply)

-- an operation is found by its processor and its index
abbrev pub AreIndexed : List (List ℕ) → List Issued → Type 0
AreIndexed numbers issued = (n : ℕ) (k : Issued) → slice_get issued n ≡ Some k
    → slice_get (numbers_of numbers k.processor) k.index ≡ Some n

-- opening words are words of the memory, events make a trace, each has its line, what is issued is
-- known with its reply, and has an index and a place of its own
pub record IsKeptIssue (r : TraceReading) : Type 0 where
  pub words : r.head.words ≤ 2 ^ 32
  pub processors : length r.numbers ≡ 4096
  pub opened : (a w : ℕ) → value_in r.head.inits a ≡ Some w → a < r.head.words
  pub trace : IsTrace r.head.words r.events
  pub lines : length r.lines ≡ length r.events
  pub known : (i : ℕ) (call : Call) → TraceIssuesAt r.events i call → IsKnownAs r.issued call
  pub issued : (n : ℕ) → n < length r.issued → WasIssuedBefore r.events (length r.events) n
  pub replied : (i id : ℕ) (reply : Reply) → TraceAnswersAt r.events i id reply
      → IsRepliedTo r.issued id reply
  pub indexed : AreIndexed r.numbers r.issued
  pub placed : (i : ℕ) (call : Call) → TraceIssuesAt r.events i call
      → (p : ℕ) × (value_in r.places call.operation.address ≡ Some p)
  pub addressed : (a p : ℕ) → value_in r.places a ≡ Some p → slice_get r.addresses p ≡ Some a
  pub below : (p a : ℕ) → slice_get r.addresses p ≡ Some a → a < r.head.words
