-- A watch of a trace, as C sees it (this project's own format).
use Rattle.std.specs.Prelude.{◌≡◌, ℕ, List, [], Option, Some, None, Result, Ok, Err, option_map}
use Rattle.std.specs.Global.{Global}
use Rattle.trace_laws.specs.declared.event.Event.{Event}
use Rattle.trace_laws.specs.declared.event.Event.TheVariants.{Issue, Answer}
use Rattle.packet.specs.Numbers.{op_of_number, reply_of_number}
use Rattle.trace_watch.specs.declared.watch.Watch.{Watch}
use Rattle.trace_watch.specs.declared.watch.Seen.{Seen}
use Rattle.trace_watch.specs.declared.watch.Seen.TheVariants.{Linearizable, NotLinearizable, NoTrace}
use Rattle.trace_watch.specs.declared.watch.Full.{Full}
use Rattle.trace_watch.specs.declared.watch.Full.TheVariants.{Memory, Configurations}
use Rattle.trace_watch.specs.Follows.{AnswersFew, Tracks, TellsFull, TellsSeen}
use Rattle.torusmem_c.specs.declared.outcome.Outcome.{Outcome}
use Rattle.torusmem_c.specs.declared.outcome.Code.TheVariants as code
use Rattle.torusmem_c.specs.Outcome.{no_memory, c_outcome}

-- what an empty handle holds once a watch is begun: nothing, since memory was refused, or a watch
-- that follows the trace without events
abbrev pub BeginsEmpty : List ℕ → Option (Watch Global) → Outcome → Type 0
BeginsEmpty opening None r = r ≡ no_memory
BeginsEmpty opening (Some w) r = Tracks opening [] w × (r ≡ c_outcome code.Done 0)

-- a watch is begun; where one is held already, it stays, and the answer says so
abbrev pub BeginsWatch : List ℕ → Option (Watch Global) → Option (Watch Global) → Outcome → Type 0
BeginsWatch opening None new r = BeginsEmpty opening new r
BeginsWatch opening (Some w) new r = (new ≡ Some w) × (r ≡ c_outcome code.Full 0)

-- the issue of an operation by its number
abbrev pub issue_named : ℕ → ℕ → ℕ → ℕ → ℕ → Option Event
issue_named id operation address first second =
    option_map (λ op. Issue (record { id = id; operation = record { address = address; op = op } }))
    (op_of_number operation first second)

-- the answer by a reply that there is
abbrev pub answer_named : ℕ → ℕ → ℕ → Option Event
answer_named id has_old old = option_map (λ reply. Answer id reply) (reply_of_number has_old old)

-- the code of what is seen of an event, or of why it isn't judged
abbrev pub told_outcome : Result Seen Full → Outcome
told_outcome (Ok Linearizable) = c_outcome code.Done 0
told_outcome (Ok NotLinearizable) = c_outcome code.NotLinearizable 0
told_outcome (Ok NoTrace) = c_outcome code.NoSuch 0
told_outcome (Err Memory) = no_memory
told_outcome (Err Configurations) = c_outcome code.TooMany 0

-- what holds of a watch that followed a trace: what is seen of the event is so, and an answer has no
-- more than so many configurations before it; or it follows what it followed, and the reason why the
-- event isn't judged holds of it
abbrev pub Watches : Event → ℕ → Watch Global → Watch Global → Result Seen Full → Type 0
Watches event bound old new (Ok seen) = (opening : List ℕ) (trace : List Event)
    → Tracks opening trace old
    → TellsSeen opening trace event new seen × AnswersFew trace event bound old
Watches event bound old new (Err full) = (opening : List ℕ) (trace : List Event)
    → Tracks opening trace old
    → Tracks opening trace new × TellsFull opening trace event bound full

-- an event is judged, with at most so many configurations of its word at once
abbrev pub TellsEvent : Event → ℕ → Watch Global → Watch Global → Outcome → Type 0
TellsEvent event bound old new r =
    (told : Result Seen Full) × Watches event bound old new told × (r ≡ told_outcome told)

-- the event that is named is judged, and nothing happens where none is
abbrev pub TakesEvent : Option Event → ℕ → Watch Global → Watch Global → Outcome → Type 0
TakesEvent None bound old new r = (new ≡ old) × (r ≡ c_outcome code.NoSuch 0)
TakesEvent (Some event) bound old new r = TellsEvent event bound old new r

-- a call works on the watch that a handle holds, and leaves it there; where none is held it answers
-- so, and still none is held
abbrev pub OnWatch : (Watch Global → Watch Global → Outcome → Type 0) → Option (Watch Global)
    → Option (Watch Global) → Outcome → Type 0
OnWatch does None new r = (new ≡ None) × (r ≡ c_outcome code.Empty 0)
OnWatch does (Some v) new r = (w : Watch Global) × (new ≡ Some w) × does v w r
