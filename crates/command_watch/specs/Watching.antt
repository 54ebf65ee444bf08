-- What a watch says of a trace while it comes, line by line.
use Rattle.std.specs.Prelude.{◌≡◌, ◌⊎◌, ℕ, List, [], ◌∷◌, ◌++◌, Option, Some, None, Result, Ok, Err, OnOk, IfErr, length}
use Rattle.std.specs.List.{range_with_len}
use Rattle.trace_laws.specs.declared.event.Event.{Event}
use Rattle.trace_laws.specs.Traces.{IsTrace}
use Rattle.trace_laws.specs.Orders.{IsLinearizable}
use Rattle.trace_lines.specs.declared.reason.LineReason.TheVariants as line
use Rattle.trace_lines.specs.Head.{HeadSpec}
use Rattle.trace_text.specs.declared.reason.TraceReason.{TraceReason}
use Rattle.trace_text.specs.declared.reason.TraceReason.TheVariants as reason
use Rattle.trace_text.specs.Findings.{opening_words_at}
use Rattle.trace_watch.specs.declared.watch.Full.{Full}
use Rattle.trace_watch.specs.declared.watch.Full.TheVariants.{Memory, Configurations}
use Rattle.trace_watch.specs.declared.watch.Watch.{Watch}
use Rattle.trace_watch.specs.Follows.{AnswersMany, Tracks}
use Rattle.command_watch.specs.declared.stop.Stop.{Stop}
use Rattle.command_watch.specs.declared.stop.Stop.TheVariants.{Refused, NoOrder, TooMany, NoTrace}
use Rattle.command_watch.specs.Stream.{StreamSpec, event_of}

-- a watch ends so where it isn't decided
abbrev pub stop_of_full : Full → Stop
stop_of_full Memory = Refused (reason.Line line.Memory)
stop_of_full Configurations = TooMany

-- the opening words by address
abbrev pub opening_of_head : HeadSpec → List ℕ
opening_of_head h = opening_words_at h.inits (range_with_len 0 h.words)

-- what is known before an event: a watch tracks a trace over opening words; before the first event
-- there is none, and the head gives the words
abbrev pub IsKnownBefore : {A : Type 0} → HeadSpec → Option (Watch A) → List ℕ → List Event → Type 0
IsKnownBefore head None opening trace = (opening ≡ opening_of_head head) × (trace ≡ [])
IsKnownBefore head (Some watch) opening trace = Tracks opening trace watch

-- a watch tracks the trace
abbrev pub IsTracked : {A : Type 0} → Option (Watch A) → List ℕ → List Event → Type 0
IsTracked None opening trace = ⊥
IsTracked (Some watch) opening trace = Tracks opening trace watch

-- why the watch ends at an event: no order explains the trace with it, which one explains without it;
-- it answers on a word that has too many configurations; with it the events are no trace; or memory
-- was refused
abbrev pub TellsStop : List ℕ → List Event → Event → ℕ → Stop → Type 0
TellsStop opening trace event bound (Refused why) = why ≡ reason.Line line.Memory
TellsStop opening trace event bound NoOrder = IsLinearizable opening trace
    × (IsLinearizable opening (trace ++ event ∷ []) → ⊥)
TellsStop opening trace event bound TooMany = AnswersMany opening trace event bound
TellsStop opening trace event bound NoTrace = IsTrace (length opening) (trace ++ event ∷ []) → ⊥

-- the trace with the event is linearizable, and tracked from there; or the watch ends
abbrev pub TellsOutcome : {A U : Type 0} → List ℕ → List Event → Event → ℕ → Option (Watch A)
    → Result U Stop → Type 0
TellsOutcome opening trace event bound watch (Ok u) = IsTracked watch opening (trace ++ event ∷ [])
    × IsLinearizable opening (trace ++ event ∷ [])
TellsOutcome opening trace event bound watch (Err stop) = TellsStop opening trace event bound stop

-- whatever was known before an event, the watch says this with it
abbrev pub JudgesEvent : {A U : Type 0} → HeadSpec → Event → ℕ → Option (Watch A) → Option (Watch A)
    → Result U Stop → Type 0
JudgesEvent head event bound old new result = (opening : List ℕ) (trace : List Event)
    → IsKnownBefore head old opening trace → TellsOutcome opening trace event bound new result

-- an event, if the line gave one, is judged, and else the watch stays as it was
abbrev pub JudgesLine : {A U : Type 0} → HeadSpec → Option Event → ℕ → Option (Watch A)
    → Option (Watch A) → Result U Stop → Type 0
JudgesLine head None bound old new result = OnOk result (new ≡ old)
    × IfErr result (λ stop. stop ≡ Refused (reason.Line line.Memory))
JudgesLine head (Some event) bound old new result = JudgesEvent head event bound old new result

-- a line has come: it is refused for its first reason, or for want of memory; or it makes this of what
-- was read, and its event is judged
abbrev pub TakesStreamLine : {A U : Type 0} → Result StreamSpec TraceReason → ℕ → StreamSpec
    → Option (Watch A) → Option (Watch A) → Result U Stop → Type 0
TakesStreamLine (Err why) bound read old new result =
    (result ≡ Err (Refused why)) ⊎ (result ≡ Err (Refused (reason.Line line.Memory)))
TakesStreamLine (Ok next) bound read old new result = OnOk result (read ≡ next)
    × JudgesLine next.head (event_of next.given) bound old new result
