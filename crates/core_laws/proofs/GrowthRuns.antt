-- The moves of a list of steps, of a machine that was handed the line before them.
use Rattle.std.proofs.Common.{◌≡◌, ℕ, List, [], ◌∷◌, Option, Some, None, refl, sym, ◌∙◌, ap, subst}
use Rattle.torus.specs.Shape.{tiles_of}
use Rattle.torus.specs.declared.step.Step.{Step}
use Rattle.script_lines.specs.declared.line.Line.{Line}
use Rattle.one_order.specs.Events.{Event}
use Rattle.core_laws.specs.Rounds as rounds
use Rattle.one_order.specs.EventBook.{EventBook, noted_event}
use Rattle.core_laws.specs.Tile.{Design}
use Rattle.core_laws.specs.Core.{State, step, or_same, next, after_from}
use Rattle.core_laws.specs.Machine.{event_in, book_from}
use Rattle.core_laws.specs.Enabled.{ahead_if_moved, enabled_of}
use Rattle.core_laws.proofs.StepLists.{idle_event, enabled_rest}
use Rattle.core_laws.specs.Appended.{state_with, IsUnreported}
use Rattle.core_laws.proofs.GrowthSteps.{Grows, grown_step, same_event}

module _ (d : Design) (p : ℕ) (line : Line) where
  -- from a state and a book, these moves in place of these steps, of the machine with the line
  pub record Follows (s : State) (g : EventBook) (ms : List Step) (t : State) (h : EventBook) : Type 0 where
    pub unreported : IsUnreported s p
    pub state : after_from d (state_with s p line) ms ≡ state_with t p line
    pub book : book_from d (state_with s p line) g ms ≡ h
    pub moves : enabled_of (step d) (state_with s p line) ms ≡ ms

  -- a move in front
  with_move : (s u : State) (g : EventBook) (x : Step) (ms : List Step) (t : State) (h : EventBook)
      → step d s x ≡ Some u
      → Follows u (noted_event (tiles_of d.shape) g (event_in d s x)) ms t h → Follows s g (x ∷ ms) t h
  with_move s u g x ms t h is f =
      let grows : Grows d s line x p u = grown_step d s line x p u is f.unreported in
      record {
        unreported = grows.unreported;
        state = ap (λ (o : Option State). after_from d (or_same (state_with s p line) o) ms) grows.step ∙ f.state;
        book =
            ap (λ (o : Option State). book_from d (or_same (state_with s p line) o)
            (noted_event (tiles_of d.shape) g (event_in d (state_with s p line) x)) ms) grows.step
            ∙ (ap (λ (e : Event). book_from d (state_with u p line) (noted_event (tiles_of d.shape) g e) ms)
            (same_event d s line x p u grows)
            ∙ f.book);
        moves =
            ap (λ (o : Option State). ahead_if_moved x o
            (enabled_of (step d) (rounds.or_same (state_with s p line) o) ms)) grows.step
            ∙ ap (λ (xs : List Step). x ∷ xs) f.moves;
      }

  by_step : (s : State) (g : EventBook) (x : Step) (ms : List Step) (t : State) (h : EventBook) (o : Option State)
      → step d s x ≡ o
      → Follows (or_same s o) (noted_event (tiles_of d.shape) g (event_in d s x)) ms t h
      → Follows s g (ahead_if_moved x o ms) t h
  by_step s g x ms t h None is f = subst (λ (b : EventBook). Follows s b ms t h) (idle_event d s x g is) f
  by_step s g x ms t h (Some u) is f = with_move s u g x ms t h is f

  -- The moves of steps after which processor p is unreported are moves with the line too, and lead to the same but for
  -- the line.
  pub follows : (s : State) (g : EventBook) (steps : List Step) → IsUnreported (after_from d s steps) p
      → Follows s g (enabled_of (step d) s steps) (after_from d s steps) (book_from d s g steps)
  follows s g [] un = record { unreported = un; state = refl; book = refl; moves = refl }
  follows s g (x ∷ steps) un =
      let book : EventBook = noted_event (tiles_of d.shape) g (event_in d s x) in
      subst (λ (xs : List Step). Follows s g (ahead_if_moved x (step d s x) xs) (after_from d s (x ∷ steps))
      (book_from d s g (x ∷ steps))) (sym (enabled_rest d s x steps))
      (by_step s g x (enabled_of (step d) (next d s x) steps) (after_from d s (x ∷ steps)) (book_from d s g (x ∷ steps))
      (step d s x) refl
      (follows (next d s x) (noted_event (tiles_of d.shape) g (event_in d s x)) steps un))
