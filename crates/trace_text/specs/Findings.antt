-- What is found of the trace of a text.
use Rattle.std.specs.Prelude.{◌≡◌, ◌+◌, ℕ, List, Some, map, slice_get, take, unwrap_or}
use Rattle.std.specs.List.{slice_index_or}
use Rattle.trace_laws.specs.Orders.{IsOrder, IsLinearizable}
use Rattle.trace_judge.specs.declared.undecided.Undecided.{Undecided}
use Rattle.trace_judge.specs.declared.undecided.Undecided.TheVariants as undecided
use Rattle.trace_judge.specs.Stops.{HasMany, IsCrowded, IsAnAnswer}
use Rattle.trace_lines.specs.Head.{value_in}
use Rattle.trace_text.specs.declared.linearize.Finding.{Finding}
use Rattle.trace_text.specs.declared.linearize.Finding.TheVariants.{Linearizable, No, NoBy}
use Rattle.trace_text.specs.declared.linearize.Unfound.{Unfound}
use Rattle.trace_text.specs.declared.linearize.Unfound.TheVariants.{Memory, Configurations}
use Rattle.trace_text.specs.declared.linearize.Unfound.TheVariants.{Operations}
use Rattle.trace_text.specs.Traced.{TraceReading, TraceSpec, opening_of}

-- the place of an address; 0 where it has none
abbrev pub place_of_address : List (ℕ × ℕ) → ℕ → ℕ
place_of_address places a = unwrap_or (value_in places a) 0

-- the address at a place; 0 where there is none
abbrev pub placed_address : List ℕ → ℕ → ℕ
placed_address addresses p = slice_index_or addresses p 0

-- the opening words at some addresses
abbrev pub opening_words_at : List (ℕ × ℕ) → List ℕ → List ℕ
opening_words_at inits addresses = map (λ a. unwrap_or (value_in inits a) 0) addresses

-- the trace that was read
abbrev pub trace_read : TraceReading → TraceSpec
trace_read r = record {
  words = r.head.words;
  inits = r.head.inits;
  issued = r.issued;
  events = r.events;
  lines = r.lines;
}

-- why a trace is not judged, with the line of the event
abbrev pub unfound_at : List ℕ → Undecided → Unfound
unfound_at lines undecided.Memory = Memory
unfound_at lines (undecided.Configurations event) = Configurations (slice_index_or lines event 0)
unfound_at lines (undecided.Operations event) = Operations (slice_index_or lines event 0)

-- event k answers an operation, and a word has more than so many configurations before it
pub record AnswersPastBound (t : TraceSpec) (bound k : ℕ) : Type 0 where
  pub answer : IsAnAnswer t.events k
  pub many : HasMany (opening_of t) t.events k bound

-- the line of an answer before which a word has more than so many configurations, or of an issue
-- beside 64 operations that are open on its word
abbrev pub IsUnfound : TraceSpec → ℕ → Unfound → Type 0
IsUnfound t bound Memory = Unit {0}
IsUnfound t bound (Configurations line) =
    (event : ℕ) × (slice_get t.lines event ≡ Some line) × AnswersPastBound t bound event
IsUnfound t bound (Operations line) =
    (event : ℕ) × (slice_get t.lines event ≡ Some line) × IsCrowded t.events event

-- a reason that isn't memory
abbrev pub IsOpenAtLine : TraceSpec → ℕ → Unfound → Type 0
IsOpenAtLine t bound Memory = ⊥
IsOpenAtLine t bound why = IsUnfound t bound why

-- up to event k no order explains the trace; for this reason it isn't decided whether it is the
-- first such event
pub record IsBadBy (t : TraceSpec) (bound k : ℕ) (why : Unfound) : Type 0 where
  pub none : IsLinearizable (opening_of t) (take (k + 1) t.events) → ⊥
  pub undecided : IsOpenAtLine t bound why

-- an order that explains the trace as it is written; or the line of the first event up to which
-- none does; or of a later one
abbrev pub TellsFinding : {A : Type 0} → TraceSpec → ℕ → Finding A → Type 0
TellsFinding t bound (Linearizable order) = IsOrder (opening_of t) t.events order.items
TellsFinding t bound (No line) = (event : ℕ) × (slice_get t.lines event ≡ Some line)
    × IsLinearizable (opening_of t) (take event t.events)
    × (IsLinearizable (opening_of t) (take (event + 1) t.events) → ⊥)
TellsFinding t bound (NoBy line why) =
    (event : ℕ) × (slice_get t.lines event ≡ Some line) × IsBadBy t bound event why
