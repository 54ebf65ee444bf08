-- The slots of a word's open operations.
use Rattle.std.specs.Prelude.{◌≡◌, ◌⊎◌, ◌<◌, ◌≤◌, ◌+◌, ◌-◌, ℕ, List, [], ◌∷◌, ◌++◌, Option, Some}
use Rattle.std.specs.Prelude.{None, length, slice_get, set}
use Rattle.std.specs.Prelude.{IsSome, replicate}
use Rattle.packet.specs.declared.kinds.Reply.{Reply}
use Rattle.trace_laws.specs.declared.event.Event.{Event}
use Rattle.trace_laws.specs.Traces.{TraceAnswersAt, IsAnswered}
use Rattle.trace_laws.specs.declared.opened.Open.{Open}

-- of 64 slots from this one on, those that there are have something in them
abbrev pub IsFilled : ℕ → List (Option Open) → Type 0
IsFilled first table = (s : ℕ) → first ≤ s → s < first + 64 → slice_get table s ≡ Some None → ⊥

-- of 64 slots from this one on none is free, and all of them are there
pub record IsFullWord (first : ℕ) (table : List (Option Open)) : Type 0 where
  pub many : first + 64 ≤ length table
  pub filled : IsFilled first table

-- an operation takes a free slot of these 64, or a new one where there are fewer
abbrev pub IsPut : List (Option Open) → ℕ → Open → List (Option Open) → Type 0
IsPut old first o new =
    ((s : ℕ) × (first ≤ s) × (s < first + 64) × (slice_get old s ≡ Some None)
    × (new ≡ set old s (Some o)))
    ⊎ ((length old < first + 64)
    × (new ≡ (old ++ replicate (first - length old) None) ++ Some o ∷ []))

-- an operation begins at slot 0 if it has a promise, or the whole trace answers it; at slot 64 if it
-- has none, and the trace doesn't answer it from this event on
abbrev pub IsBegunSlot : List Event → ℕ → ℕ → Option Reply → ℕ → Type 0
IsBegunSlot whole from id promise first =
    ((first ≡ 0) × (IsSome promise ⊎ IsAnswered whole id))
    ⊎ ((first ≡ 64) × (promise ≡ None)
    × ((i : ℕ) (reply : Reply) → from ≤ i → TraceAnswersAt whole i id reply → ⊥))

-- the first slot for an operation of this number: the slots from 0 on are of operations that the
-- trace answers, those from 64 on of those that it never does
abbrev pub IsFirstSlot : List Event → ℕ → ℕ → Type 0
IsFirstSlot trace id first =
    ((first ≡ 0) × IsAnswered trace id) ⊎ ((first ≡ 64) × (IsAnswered trace id → ⊥))

-- a slot is one for an operation of this number
abbrev pub IsParted : List Event → ℕ → ℕ → Type 0
IsParted trace s id =
    ((s < 64) × IsAnswered trace id) ⊎ ((64 ≤ s) × (IsAnswered trace id → ⊥))
