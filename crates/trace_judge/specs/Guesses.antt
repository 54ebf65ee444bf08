-- Traces that are likely to have an order.
use Rattle.std.specs.Prelude.{◌≡◌, ◌⊎◌, ℕ, List, [], ◌∷◌, ◌++◌, Some, slice_get}
use Rattle.packet.specs.declared.kinds.Reply.{Reply}
use Rattle.trace_laws.specs.declared.event.Event.{Event}
use Rattle.trace_laws.specs.declared.event.Event.TheVariants.{Answer}
use Rattle.trace_laws.specs.Unanswered.{IssuesUnanswered, IsResponse, IsWithout}

-- events without some issues of operations that the whole trace never answers, and with some
-- answers more
abbrev pub IsLikely : List Event → List Event → List Event → Type 0
IsLikely whole events likely = (middle : List Event)
    × IsWithout (IssuesUnanswered whole) events middle × IsWithout IsResponse likely middle

-- event k comes at the end, or issues an operation that is never answered and is left out
abbrev pub IsKeptOrLeft : List Event → ℕ → List Event → List Event → Type 0
IsKeptOrLeft events k old new = (event : Event) → slice_get events k ≡ Some event
    → (new ≡ old ++ event ∷ []) ⊎ ((new ≡ old) × IssuesUnanswered events event)

-- an answer comes at the end, or nothing
abbrev pub HasGuessedAnswer : List Event → List Event → Type 0
HasGuessedAnswer old new = (new ≡ old) ⊎ ((id : ℕ) × (reply : Reply) × (new ≡ old ++ Answer id reply ∷ []))
