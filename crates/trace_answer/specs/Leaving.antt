-- Which operations of a trace may have left what another one found.
use Rattle.std.specs.Prelude.{◌≡◌, ◌⊎◌, ◌<◌, ◌==◌, if◌then◌else◌, ℕ, Bool, List, Option, Some, None}
use Rattle.std.specs.Prelude.{slice_get}
use Rattle.packet.specs.declared.kinds.Op.{Op}
use Rattle.packet.specs.declared.kinds.Op.TheVariants.{Load, Store, Swap, Cas, Add, And, Or, Xor, Max, Min}
use Rattle.packet.specs.declared.kinds.Reply.{Reply}
use Rattle.packet.specs.declared.kinds.Reply.TheVariants.{Old, Ok as Stored}
use Rattle.packet.specs.Memory.{new_word}
use Rattle.state_search.specs.Parts.{IsKept}
use Rattle.trace_laws.specs.declared.event.Call.{Call}
use Rattle.trace_laws.specs.declared.event.Event.{Event}
use Rattle.trace_laws.specs.Traces.{TraceAnswersAt, TraceIssuesAt}
use Rattle.trace_text.specs.declared.issued.Issued.{Issued}
use Rattle.trace_answer.specs.declared.leaving.Words.{Words}
use Rattle.trace_answer.specs.declared.leaving.Words.TheVariants.{Nothing, One, Any}

-- a word is among some words
abbrev pub IsAmong : Words → ℕ → Type 0
IsAmong Nothing v = ⊥
IsAmong (One w) v = w ≡ v
IsAmong Any v = Unit {0}

-- what an operation without an answer must have found to leave another word: a cas the word that it
-- expects, any other that uses what it finds any word
abbrev pub found_untold : Op → Words
found_untold Load = Nothing
found_untold (Store v) = Nothing
found_untold (Swap v) = Nothing
found_untold (Cas e n) = One e
found_untold (Add v) = Any
found_untold (And v) = Any
found_untold (Or v) = Any
found_untold (Xor v) = Any
found_untold (Max v) = Any
found_untold (Min v) = Any

-- what an operation found that matters to it, as far as its reply tells
abbrev pub found_of : Op → Option Reply → Words
found_of op (Some (Old w)) = One w
found_of op (Some Stored) = Nothing
found_of op None = found_untold op

-- what an operation may leave of which no reply tells what it found
abbrev pub left_untold : Op → Words
left_untold Load = Nothing
left_untold (Store v) = One v
left_untold (Swap v) = One v
left_untold (Cas e n) = One n
left_untold (Add v) = Any
left_untold (And v) = Any
left_untold (Or v) = Any
left_untold (Xor v) = Any
left_untold (Max v) = Any
left_untold (Min v) = Any

-- what an operation may leave in place of another word, as far as its reply tells
abbrev pub left_of : Op → Option Reply → Words
left_of op (Some (Old w)) = if new_word op w == w then Nothing else One (new_word op w)
left_of op (Some Stored) = left_untold op
left_of op None = left_untold op

-- operation k has no answer, or one behind event i
abbrev pub IsOpenBehind : List Event → ℕ → ℕ → Issued → Type 0
IsOpenBehind events i k issued = (issued.reply ≡ None)
    ⊎ ((f : ℕ) × (reply : Reply) × (i < f) × TraceAnswersAt events f k reply)

-- Operation j may have left what operation k found: it was issued before k was answered, on the same
-- word of the memory, and may have left such a word in place of another one.
pub record MayHaveLeft (issued : List Issued) (events : List Event) (k j : ℕ) : Type 0 where
  pub event : ℕ
  pub call : Call
  pub issue : TraceIssuesAt events event call
  pub named : call.id ≡ j
  pub first : Issued
  pub second : Issued
  pub one : slice_get issued k ≡ Some first
  pub other : slice_get issued j ≡ Some second
  pub early : IsOpenBehind events event k first
  pub here : second.operation.address ≡ first.operation.address
  pub word : ℕ
  pub found : IsAmong (found_of first.operation.op first.reply) word
  pub left : IsAmong (left_of second.operation.op second.reply) word

-- with each operation a part keeps all that may have left what that one found
abbrev pub IsClosedPart : List Issued → List Event → List Bool → Type 0
IsClosedPart issued events kept =
    (k j : ℕ) → IsKept kept k → MayHaveLeft issued events k j → IsKept kept j
