-- What a sentence says of an answer.
use Rattle.std.specs.Prelude.{◌≡◌, ◌↔◌, ℕ, Contains}
use Rattle.std.specs.List.Sorted.{IsStrictlyIncreasing}
use Rattle.packet.specs.declared.kinds.Reply.{Reply}
use Rattle.packet.specs.declared.kinds.Reply.TheVariants.{Old}
use Rattle.trace_laws.specs.Traces.{TraceAnswersAt}
use Rattle.trace_text.specs.Allowed.{IsAllowed, trace_answered_so}
use Rattle.trace_text.specs.Findings.{IsUnfound}
use Rattle.trace_text.specs.Traced.{TraceSpec, opening_of}
use Rattle.trace_text.specs.declared.linearize.Unfound.{Unfound}
use Rattle.trace_why.specs.declared.calls.CallAt.{CallAt}
use Rattle.trace_why.specs.declared.untold.Untold.{Untold}
use Rattle.trace_why.specs.declared.untold.Untold.TheVariants.{Memory, Values, Undecided}
use Rattle.trace_why.specs.declared.why.WhyNot.{WhyNot}
use Rattle.trace_why.specs.Calls.{IsAnsweredOn, IsAnsweredAtEvent, AreOpenOn}
use Rattle.trace_why.specs.Values.{IsTried, HoldsOfMany}

-- Event k answers an operation, with the reply that is told. Told are all operations that are open
-- on its word before the event, and exactly the values with which the operation may be answered
-- there: with any of them some order explains the trace up to the answer, and with no other one
-- (Herlihy and Wing, TOPLAS 12(3), 1990).
pub record TellsWhyNot {A : Type 0} (t : TraceSpec) (k : ℕ) (why : WhyNot A) : Type 0 where
  pub call : CallAt
  pub number : call.call.id ≡ why.id
  pub answer : IsAnsweredOn t.events k why.address call why.reply
  pub pending : AreOpenOn t.events k why.address why.pending.items
  pub values : (v : ℕ) → Contains why.values.items v
      ↔ IsAllowed (opening_of t) t.events k why.id (Old v)
  pub rising : IsStrictlyIncreasing why.values.items

-- event k answers an operation, and more than so many values of its word are tried
pub record HasManyValues (t : TraceSpec) (k tries : ℕ) : Type 0 where
  pub call : CallAt
  pub answer : IsAnsweredAtEvent t.events k call
  pub many : HoldsOfMany (IsTried (opening_of t) t.events k call.call.operation.address) tries

-- event k answers an operation, and with some value in place of its reply the trace up to there is
-- not judged, where a word may have so many configurations
pub record IsUndecidedAt (t : TraceSpec) (k bound : ℕ) (why : Unfound) : Type 0 where
  pub id : ℕ
  pub reply : Reply
  pub answer : TraceAnswersAt t.events k id reply
  pub value : ℕ
  pub unfound : IsUnfound (trace_answered_so t k id (Old value)) bound why

-- why it is not told what event k may answer, where so many values are tried at most, and a word
-- may have so many configurations: of no memory nothing is said
abbrev pub IsUntold : TraceSpec → ℕ → ℕ → ℕ → Untold → Type 0
IsUntold t k tries bound Memory = Unit {0}
IsUntold t k tries bound Values = HasManyValues t k tries
IsUntold t k tries bound (Undecided why) = IsUndecidedAt t k bound why
