-- Runs of the core are histories of events: what is left is that each step keeps what holds.
use Rattle.std.proofs.Common.{◌≡◌, ℕ, zero, suc, List, [], ◌∷◌, length, take, Option, Some, None, refl, slice_get}
use Rattle.torus.specs.declared.step.Step.{Step}
use Rattle.one_order.specs.Events.{Event}
use Rattle.one_order.specs.Flight.{Move, flight_event}
use Rattle.tile.specs.Tile.{Design}
use Rattle.core_laws.specs.Core.{Load, State, design_of, next, after_from, after}
use Rattle.core_laws.specs.Moves.{move_of}
use Rattle.core_laws.proofs.FlightSteps.{flight_with}

-- the move of an optional step, and the state after it
abbrev pub move_at : Design → State → Option Step → Option Move
move_at d s None = None
move_at d s (Some attempt) = move_of d s attempt

abbrev pub next_at : Design → State → Option Step → State
next_at d s None = s
next_at d s (Some attempt) = next d s attempt

abbrev pub state_at : Load → List Step → ℕ → State
state_at l steps k = after l (take k steps)

-- the event of the step after the first k
abbrev pub event_at : Load → List Step → ℕ → Event
event_at l steps k = flight_event (flight_with (length l.opening) (state_at l steps k) [] []) (move_at (design_of l) (state_at l steps k) (slice_get steps k))

pub after_more : (d : Design) (steps : List Step) (s : State) (k : ℕ)
    → after_from d s (take (suc k) steps) ≡ next_at d (after_from d s (take k steps)) (slice_get steps k)
after_more d [] s zero = refl
after_more d [] s (suc k) = refl
after_more d (step ∷ steps) s zero = refl
after_more d (step ∷ steps) s (suc k) = after_more d steps (next d s step) k
