-- The book of a list of steps is that of the run's events.
use Rattle.std.proofs.Common.{◌≡◌, ℕ, zero, suc, List, [], ◌∷◌, ◌++◌, length, take, Option, refl, sym, ◌∙◌, ap, arith, slice_get}
use Rattle.std.proofs.lemmas.List.{take_all}
use Rattle.torus.specs.Shape.{tiles_of}
use Rattle.torus.specs.declared.step.Step.{Step}
use Rattle.one_order.specs.Events.{Event}
use Rattle.one_order.specs.Flight.{flight_event}
use Rattle.one_order.specs.EventBook.{EventBook, first_book, noted_event, book_of}
use Rattle.core_laws.specs.Tile.{Design}
use Rattle.core_laws.specs.Core.{Load, State, design_of, first_state, next, after_from}
use Rattle.core_laws.proofs.FlightSteps.{flight_with}
use Rattle.core_laws.proofs.Histories.{move_at, event_at}
use Rattle.core_laws.specs.Machine.{event_in, book_from, book_after}

pub after_append : (d : Design) (s : State) (a b : List Step) → after_from d s (a ++ b) ≡ after_from d (after_from d s a) b
after_append d s [] b = refl
after_append d s (x ∷ a) b = after_append d (next d s x) a b

pub book_append : (d : Design) (s : State) (g : EventBook) (a b : List Step) → book_from d s g (a ++ b) ≡ book_from d (after_from d s a) (book_from d s g a) b
book_append d s g [] b = refl
book_append d s g (x ∷ a) b = book_append d (next d s x) (noted_event (tiles_of d.shape) g (event_in d s x)) a b

-- the event of a step that is there, and of none
abbrev event_given : Design → State → Option Step → Event
event_given d s attempt = flight_event (flight_with d.words s [] []) (move_at d s attempt)

book_more : (d : Design) (steps : List Step) (s : State) (g : EventBook) (k : ℕ) → book_from d s g (take (suc k) steps)
    ≡ noted_event (tiles_of d.shape) (book_from d s g (take k steps)) (event_given d (after_from d s (take k steps)) (slice_get steps k))
book_more d [] s g zero = refl
book_more d [] s g (suc k) = refl
book_more d (step ∷ steps) s g zero = refl
book_more d (step ∷ steps) s g (suc k) = book_more d steps (next d s step) (noted_event (tiles_of d.shape) g (event_in d s step)) k

-- the book of the first n steps is that of the first n events
pub book_at : (l : Load) (steps : List Step) (n : ℕ) → book_after l (take n steps) ≡ book_of (tiles_of l.shape) (event_at l steps) n
book_at l steps zero = refl
book_at l steps (suc n) =
    book_more (design_of l) steps (first_state l) (first_book (tiles_of l.shape)) n
    ∙ ap (λ (g : EventBook). noted_event (tiles_of l.shape) g (event_at l steps n)) (book_at l steps n)

pub book_is : (l : Load) (steps : List Step) → book_after l steps ≡ book_of (tiles_of l.shape) (event_at l steps) (length steps)
book_is l steps = ap (book_after l) (sym (take_all (length steps) steps (omega arith))) ∙ book_at l steps (length steps)
