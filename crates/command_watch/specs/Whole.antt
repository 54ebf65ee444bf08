-- What a watch of a whole trace comes to.
use Rattle.std.specs.Prelude.{◌≡◌, ◌+◌, ℕ, List, Option, Some, None, slice_get, take}
use Rattle.std.specs.List.{slice_index_or}
use Rattle.trace_laws.specs.declared.event.Event.{Event}
use Rattle.trace_laws.specs.Orders.{IsLinearizable}
use Rattle.trace_text.specs.Renumbered.{IsRenumbered}
use Rattle.trace_text.specs.Traced.{TraceSpec, opening_of}
use Rattle.trace_watch.specs.Follows.{AnswersMany}
use Rattle.command_watch.specs.declared.whole.Halt.{Halt}
use Rattle.command_watch.specs.declared.whole.Halt.TheVariants as halt
use Rattle.command_watch.specs.declared.whole.Watched.{Watched}
use Rattle.command_watch.specs.declared.whole.Watched.TheVariants.{Linearizable, No, TooMany}

-- what comes before event k is linearizable (Herlihy and Wing, TOPLAS 12(3), 1990), and with it is not
pub record EndsOrders (opening : List ℕ) (trace : List Event) (k : ℕ) : Type 0 where
  pub event : Event
  pub there : slice_get trace k ≡ Some event
  pub before : IsLinearizable opening (take k trace)
  pub none : IsLinearizable opening (take (k + 1) trace) → ⊥

-- event k answers on a word that has more configurations than so many
pub record AnswersManyAt (opening : List ℕ) (trace : List Event) (bound k : ℕ) : Type 0 where
  pub event : Event
  pub there : slice_get trace k ≡ Some event
  pub many : AnswersMany opening (take k trace) event bound

-- the whole trace is linearizable, or a watch ends for this
abbrev pub TellsHalt : List ℕ → List Event → ℕ → Option Halt → Type 0
TellsHalt opening trace bound None = IsLinearizable opening trace
TellsHalt opening trace bound (Some (halt.NoOrder k)) = EndsOrders opening trace k
TellsHalt opening trace bound (Some (halt.TooMany k)) = AnswersManyAt opening trace bound k

-- what a watch comes to that ends so, where events are of these lines
abbrev pub watched_of : List ℕ → Option Halt → Watched
watched_of lines None = Linearizable
watched_of lines (Some (halt.NoOrder k)) = No (slice_index_or lines k 0)
watched_of lines (Some (halt.TooMany k)) = TooMany (slice_index_or lines k 0)

-- event k of a trace answers on a word that has more configurations than so many, where its words
-- have other numbers
pub record CrowdsWord (t : TraceSpec) (bound k : ℕ) : Type 0 where
  pub opening : List ℕ
  pub events : List Event
  pub same : IsRenumbered t opening events
  pub many : AnswersManyAt opening events bound k

-- a trace is linearizable; or an event of this line is the first with which it isn't; or it isn't
-- decided at an event of this line
abbrev pub TellsWatched : TraceSpec → ℕ → Watched → Type 0
TellsWatched t bound Linearizable = IsLinearizable (opening_of t) t.events
TellsWatched t bound (No line) =
    (k : ℕ) × (slice_get t.lines k ≡ Some line) × EndsOrders (opening_of t) t.events k
TellsWatched t bound (TooMany line) =
    (k : ℕ) × (slice_get t.lines k ≡ Some line) × CrowdsWord t bound k
