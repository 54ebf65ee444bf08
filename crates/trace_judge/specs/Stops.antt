-- Why a trace is not judged.
use Rattle.std.specs.Prelude.{◌≡◌, ◌↔◌, ◌<◌, ℕ, List, Some, length, slice_get, slice_index, take}
use Rattle.packet.specs.declared.kinds.Reply.{Reply}
use Rattle.trace_laws.specs.declared.event.Call.{Call}
use Rattle.trace_laws.specs.declared.event.Event.{Event}
use Rattle.trace_laws.specs.Traces.{TraceIssuesAt, TraceAnswersAt, IsUnanswered}
pub use Rattle.trace_laws.specs.Traces.{IsAnswered}
use Rattle.trace_laws.specs.Orders.{IsOn, memory_of}
use Rattle.trace_laws.specs.Legal.{Legal}
use Rattle.trace_judge.specs.declared.undecided.Undecided.{Undecided}
use Rattle.trace_judge.specs.declared.undecided.Undecided.TheVariants.{Memory, Configurations, Operations}

-- 64 operations are open on a word before event k (Herlihy and Wing, TOPLAS 12(3), 1990: pending),
-- which issues another on it; and all of them, with the other one, are answered in the trace, or
-- none of them is
pub record IsCrowded (trace : List Event) (k : ℕ) : Type 0 where
  pub another : Call
  pub issue : TraceIssuesAt trace k another
  pub calls : List Call
  pub many : length calls ≡ 64
  pub issued : (s : ℕ) (c : Call) → slice_get calls s ≡ Some c
      → (i : ℕ) × (i < k) × TraceIssuesAt trace i c
  pub pending : (s : ℕ) (c : Call) → slice_get calls s ≡ Some c → IsUnanswered trace k c.id
  pub here : (s : ℕ) (c : Call) → slice_get calls s ≡ Some c
      → c.operation.address ≡ another.operation.address
  pub distinct : (s u : ℕ) (c d : Call) → slice_get calls s ≡ Some c → slice_get calls u ≡ Some d
      → c.id ≡ d.id → s ≡ u
  pub later : (s : ℕ) (c : Call) → slice_get calls s ≡ Some c → IsAnswered trace another.id
      → IsAnswered trace c.id
  pub never : (s : ℕ) (c : Call) → slice_get calls s ≡ Some c → IsAnswered trace c.id
      → IsAnswered trace another.id

-- event k answers an operation
abbrev pub IsAnAnswer : List Event → ℕ → Type 0
IsAnAnswer trace k = (id : ℕ) × (reply : Reply) × TraceAnswersAt trace k id reply

-- why a trace is not judged: there are too many open operations on a word, or configurations of
-- it, or no memory
abbrev pub IsUndecided : List Event → Undecided → Type 0
IsUndecided trace Memory = Unit {0}
IsUndecided trace (Configurations event) = IsAnAnswer trace event
IsUndecided trace (Operations event) = IsCrowded trace event

-- two orders leave the same of word w: the word, and the operations on it that are open before
-- event k and not in the order
pub record LeaveSame (opening : List ℕ) (trace : List Event) (k w : ℕ) (a b : List Call) : Type 0
  where
    pub word : slice_index (memory_of opening a) w ≡ slice_index (memory_of opening b) w
    pub on : (i : ℕ) (call : Call) → i < k → TraceIssuesAt trace i call → call.operation.address ≡ w
        → IsUnanswered trace k call.id → IsOn a call.id ↔ IsOn b call.id

-- a word has more than so many configurations before event k: as many orders explain what comes
-- before it, with the replies that the trace or a beginning of it tells, and no two leave the same
-- of the word
pub record HasMany (opening : List ℕ) (trace : List Event) (k bound : ℕ) : Type 0 where
  pub word : ℕ
  pub told : ℕ
  pub early : k < told
  pub orders : List (List Call)
  pub many : bound < length orders
  pub legal : (i : ℕ) (order : List Call) → slice_get orders i ≡ Some order
      → Legal opening (take told trace) k order
  pub unlike : (i j : ℕ) (a b : List Call) → i < j → slice_get orders i ≡ Some a
      → slice_get orders j ≡ Some b → LeaveSame opening (take told trace) k word a b → ⊥

-- where a trace is not judged for its configurations, a word has too many
abbrev pub TellsMany : List ℕ → List Event → ℕ → Undecided → Type 0
TellsMany opening trace bound Memory = Unit {0}
TellsMany opening trace bound (Configurations event) = HasMany opening trace event bound
TellsMany opening trace bound (Operations event) = Unit {0}

-- a reason that isn't memory
abbrev pub IsOpen : List ℕ → List Event → ℕ → Undecided → Type 0
IsOpen opening trace bound Memory = ⊥
IsOpen opening trace bound (Configurations event) =
    IsAnAnswer trace event × HasMany opening trace event bound
IsOpen opening trace bound (Operations event) = IsCrowded trace event

-- a beginning of a trace
abbrev pub IsBeginning : List Event → List Event → Type 0
IsBeginning beginning trace = (n : ℕ) × (beginning ≡ take n trace)
