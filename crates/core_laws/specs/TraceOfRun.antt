-- The trace of a run: its issues and answers, and not when its operations were served.
use Rattle.std.specs.Prelude.{ℕ, zero, suc, List, [], ◌∷◌, ◌++◌, length, replicate, slice_index}
use Rattle.torus.specs.Shape.{tiles_of}
use Rattle.torus.specs.declared.step.Step.{Step}
use Rattle.one_order.specs.Observed.{list_at}
use Rattle.one_order.specs.Events.{Event as RunEvent, Nothing, Issued, Served, Answered, push_at}
use Rattle.trace_laws.specs.declared.event.Event.{Event}
use Rattle.trace_laws.specs.declared.event.Event.TheVariants.{Issue, Answer}
use Rattle.core_laws.specs.Core.{Load}
use Rattle.core_laws.specs.Runs.{event_of}

-- the numbers of each processor's issues, with those of an event: an issue has the number of its
-- step
abbrev pub numbers_with : List (List ℕ) → ℕ → RunEvent → List (List ℕ)
numbers_with numbers k Nothing = numbers
numbers_with numbers k (Issued p o) = push_at numbers p k
numbers_with numbers k (Served p i tag o) = numbers
numbers_with numbers k (Answered p a) = numbers

-- the numbers of the issues of the first n steps
abbrev pub numbers_after : ℕ → (ℕ → RunEvent) → ℕ → List (List ℕ)
numbers_after tiles event zero = replicate tiles []
numbers_after tiles event (suc n) = numbers_with (numbers_after tiles event n) n (event n)

-- what a trace tells of an event (Herlihy and Wing, TOPLAS 12(3), 1990: invocations and responses)
abbrev pub told_in_trace : List (List ℕ) → ℕ → RunEvent → List Event
told_in_trace numbers k Nothing = []
told_in_trace numbers k (Issued p o) = Issue (record { id = k; operation = o }) ∷ []
told_in_trace numbers k (Served p i tag o) = []
told_in_trace numbers k (Answered p a) = Answer (slice_index (list_at numbers p) a.index) a.reply ∷ []

-- the trace of the first n steps
abbrev pub trace_after : ℕ → (ℕ → RunEvent) → ℕ → List Event
trace_after tiles event zero = []
trace_after tiles event (suc n) =
    trace_after tiles event n ++ told_in_trace (numbers_after tiles event n) n (event n)

-- the trace of a list of steps from a load
abbrev pub trace_of_run : Load → List Step → List Event
trace_of_run l steps = trace_after (tiles_of l.shape) (event_of l steps) (length steps)
