-- When the operations of a trace were issued and answered.
use Rattle.std.specs.Prelude.{◌≡◌, ◌<◌, ◌≤◌, ℕ, List, Some, None, length, nat_lt, slice_set}
use Rattle.std.specs.Prelude.{if◌then◌else◌}
use Rattle.std.specs.List.{slice_index_or}
use Rattle.packet.specs.declared.kinds.Reply.{Reply}
use Rattle.trace_laws.specs.declared.event.Call.{Call}
use Rattle.trace_laws.specs.declared.event.Event.{Event}
use Rattle.trace_laws.specs.declared.event.Event.TheVariants.{Issue, Answer}
use Rattle.trace_laws.specs.Traces.{TraceIssuesAt, TraceAnswersAt}
use Rattle.trace_answer.specs.declared.times.Times.{Times}

-- the times of the operation of a number; none where there is no such operation
abbrev pub time_of : List Times → ℕ → Times
time_of times id = slice_index_or times id (record { issued = 0; answered = None })

-- For each of so many operations it is told which of the first events of a trace issues it, and
-- which answers it, if one does: an event is named by how many come before it (Herlihy and Wing,
-- TOPLAS 12(3), 1990: the invocation and the response of an operation).
pub record AreTimesBelow (events : List Event) (k count : ℕ) (times : List Times) : Type 0 where
  pub sized : length times ≡ count
  pub issued : (i : ℕ) (c : Call) → i < k → TraceIssuesAt events i c → (time_of times c.id).issued ≡ i
  pub answered : (i id : ℕ) (reply : Reply) → i < k → TraceAnswersAt events i id reply
      → (time_of times id).answered ≡ Some i
  pub only : (i id : ℕ) → (time_of times id).answered ≡ Some i
      → (i < k) × (reply : Reply) × TraceAnswersAt events i id reply
  pub low : (id : ℕ) → (time_of times id).issued ≤ k

-- for each of so many operations it is told which event of a trace issues it, and which answers it,
-- if one does
abbrev pub AreTimes : List Event → ℕ → List Times → Type 0
AreTimes events count times = AreTimesBelow events (length events) count times

-- no more events than a report numbers come before an issue or an answer
pub record AreLowTimes (times : List Times) : Type 0 where
  pub issued : (id : ℕ) → (time_of times id).issued ≤ 196608
  pub answered : (id i : ℕ) → (time_of times id).answered ≡ Some i → i ≤ 196608

-- the times with that of one more operation
abbrev pub with_time : List Times → ℕ → Times → List Times
with_time times id time = if nat_lt id (length times) then slice_set times id time else times

-- the times once an event is noted that so many come before
abbrev pub times_noted : List Times → ℕ → Event → List Times
times_noted times at (Issue c) = with_time times c.id (record (time_of times c.id) { issued = at })
times_noted times at (Answer id reply) =
    with_time times id (record (time_of times id) { answered = Some at })
