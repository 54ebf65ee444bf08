-- The moves of a list of steps.
use Rattle.std.proofs.Common.{◌≡◌, ℕ, ◌+◌, ◌≤◌, List, [], ◌∷◌, ◌++◌, length, map, Option, Some, None, refl, sym, ◌∙◌, ap, subst, arith}
use Rattle.torus.specs.Shape.{tiles_of}
use Rattle.torus.specs.declared.step.Step.{Step}
use Rattle.std.specs.Prelude.{option_and_then, option_map, slice_set, slice_get}
use Rattle.flit_buffer.specs.Surroundings.{Surroundings}
use Rattle.script_lines.specs.Lines.{operation_count}
use Rattle.core_laws.specs.Rounds as rounds
use Rattle.core_laws.specs.Rounds.{after_attempts, moves_in, IsEnabled}
use Rattle.one_order.specs.Flight.{Move, flight_event}
use Rattle.one_order.specs.EventBook.{EventBook, first_book, noted_event}
use Rattle.core_laws.specs.Tile.{Design, TileState, tile_step}
use Rattle.core_laws.specs.Agents.{agent_kind, agent_tile}
use Rattle.core_laws.specs.Core.{Load, State, design_of, first_state, step, next, or_same, after, after_from}
use Rattle.core_laws.specs.Moves.{tile_move, move_of}
use Rattle.core_laws.proofs.AgentSteps.{option_map_none}
use Rattle.core_laws.proofs.FlightSteps.{refused_tile}
use Rattle.core_laws.specs.Runs.{without_packets}
use Rattle.core_laws.specs.ProgressMoves.{moves_made, most_moves, moves_left}
use Rattle.core_laws.proofs.Made.{or_is}
use Rattle.core_laws.specs.Machine.{Core, IsAfter, built_to, event_in, book_from, book_after, core_after_load, core_with, core_next, core_after}
use Rattle.core_laws.proofs.Counted.{left_is}
use Rattle.core_laws.proofs.Machines.{named_machine, stands_after, after_steps}
use Rattle.core_laws.proofs.Moves.{built, all_moves, most_left}
use Rattle.core_laws.specs.Enabled.{ahead_if_moved, enabled_of, AreEnabled}
use Rattle.core_laws.specs.MachineMoves.{moves_of, moves_from, AreMoves, AreMovesFrom}
use Rattle.core_laws.proofs.MachineEnabled as generic

-- an attempt that isn't enabled is no move
refused_by : (d : Design) (s : State) (x : Step) (tile : Option TileState)
    → option_and_then {U = State} (λ (v : TileState).
    option_map
    (λ (p : TileState × Surroundings). record { tiles = slice_set s.tiles (agent_tile x.agent) p.0; around = p.1 })
    (tile_step d (agent_tile x.agent) v s.around (agent_kind x.agent) x.choice)) tile ≡ None
    → option_and_then (λ (v : TileState).
    tile_move d (agent_tile x.agent) v s.around (agent_kind x.agent) x.choice) tile ≡ None
refused_by d s x None h = refl
refused_by d s x (Some tile) h =
    refused_tile d s [] [] (agent_tile x.agent) tile (agent_kind x.agent) x.choice
    (option_map_none {B = State}
    (λ (p : TileState × Surroundings). record { tiles = slice_set s.tiles (agent_tile x.agent) p.0; around = p.1 }) _ h)

refused_step : (d : Design) (s : State) (x : Step) → step d s x ≡ None → move_of d s x ≡ None
refused_step d s x h = refused_by d s x (slice_get s.tiles (agent_tile x.agent)) h

module _ (d : Design) where
  -- a list of attempts of the core, in the words of rounds
  pub attempts_are : (s : State) (steps : List Step) → after_attempts (step d) s steps ≡ after_from d s steps
  attempts_are s [] = refl
  attempts_are s (x ∷ steps) =
      attempts_are (rounds.or_same s (step d s x)) steps
      ∙ ap (λ (t : State). after_from d t steps) (or_is s (step d s x))

  pub state_alike : (s : State) (steps : List Step)
      → after_from d s (enabled_of (step d) s steps) ≡ after_from d s steps
  state_alike s steps =
      sym (attempts_are s (enabled_of (step d) s steps)) ∙ (generic.same_after (step d) s steps ∙ attempts_are s steps)

  -- the enabled ones of attempts, after the first in the core's own words
  pub enabled_rest : (s : State) (x : Step) (steps : List Step)
      → enabled_of (step d) (rounds.or_same s (step d s x)) steps ≡ enabled_of (step d) (next d s x) steps
  enabled_rest s x steps = ap (λ (t : State). enabled_of (step d) t steps) (or_is s (step d s x))

  -- an attempt that isn't enabled is no event
  pub idle_event : (s : State) (x : Step) (g : EventBook) → step d s x ≡ None
      → noted_event (tiles_of d.shape) g (event_in d s x) ≡ g
  idle_event s x g is =
      ap (λ (m : Option Move). noted_event (tiles_of d.shape) g (flight_event (without_packets d.words s) m))
      (refused_step d s x is)

  book_by : (s : State) (g : EventBook) (x : Step) (steps : List Step) (o : Option State) → step d s x ≡ o
      → book_from d (or_same s o) (noted_event (tiles_of d.shape) g (event_in d s x))
      (enabled_of (step d) (or_same s o) steps)
      ≡ book_from d (or_same s o) (noted_event (tiles_of d.shape) g (event_in d s x)) steps
      → book_from d s g (ahead_if_moved x o (enabled_of (step d) (or_same s o) steps))
      ≡ book_from d (or_same s o) (noted_event (tiles_of d.shape) g (event_in d s x)) steps
  book_by s g x steps None is rest =
      ap (λ (h : EventBook). book_from d s h (enabled_of (step d) s steps)) (sym (idle_event s x g is)) ∙ rest
  book_by s g x steps (Some t) is rest =
      ap (λ (o : Option State). book_from d (or_same s o) (noted_event (tiles_of d.shape) g (event_in d s x))
      (enabled_of (step d) t steps)) is ∙ rest

  pub book_alike : (s : State) (g : EventBook) (steps : List Step)
      → book_from d s g (enabled_of (step d) s steps) ≡ book_from d s g steps
  book_alike s g [] = refl
  book_alike s g (x ∷ steps) =
      ap (λ (xs : List Step). book_from d s g (ahead_if_moved x (step d s x) xs)) (enabled_rest s x steps)
      ∙ book_by s g x steps (step d s x) refl
      (book_alike (next d s x) (noted_event (tiles_of d.shape) g (event_in d s x)) steps)

-- the machine of a load in a state, with a book, and moves that are left
abbrev pub machine_of : Load → State → EventBook → ℕ → Core
machine_of l s g left = record {
  shape = l.shape;
  depth = l.depth;
  tags = l.tags;
  opening = l.opening;
  allowed = map operation_count l.scripts;
  state = s;
  book = g;
  moves_left = left;
}

-- from a load
module _ (l : Load) where
  pub load_state : (steps : List Step) → after l (moves_of l steps) ≡ after l steps
  load_state steps = state_alike (design_of l) (first_state l) steps

  pub load_book : (steps : List Step) → book_after l (moves_of l steps) ≡ book_after l steps
  load_book steps = book_alike (design_of l) (first_state l) (first_book (tiles_of l.shape)) steps

  pub load_again : (steps : List Step) → moves_of l (moves_of l steps) ≡ moves_of l steps
  load_again steps = generic.again (step (design_of l)) (first_state l) steps

  pub load_count : (steps : List Step) → length (moves_of l steps) ≡ moves_made l steps
  load_count steps = generic.count (step (design_of l)) (first_state l) steps

  pub load_made : (steps : List Step) → moves_made l (moves_of l steps) ≡ moves_made l steps
  load_made steps =
      sym (load_count (moves_of l steps)) ∙ (ap (λ (xs : List Step). length xs) (load_again steps) ∙ load_count steps)

  load_left : (steps : List Step)
      → moves_left l (moves_of l steps) (length (moves_of l steps)) ≡ moves_left l steps (length steps)
  load_left steps =
      let ours = left_is l (moves_of l steps) in
      let theirs = left_is l steps in
      let same = load_made steps in
      omega (arith, ours, theirs, same)

  pub load_machine : (steps : List Step) → core_after_load l (moves_of l steps) ≡ core_after_load l steps
  load_machine steps =
      let ours : List Step = moves_of l steps in
      ap (λ (s : State). machine_of l s (book_after l ours) (moves_left l ours (length ours))) (load_state steps)
      ∙ (ap (λ (g : EventBook). machine_of l (after l steps) g (moves_left l ours (length ours))) (load_book steps)
      ∙ ap (λ (n : ℕ). machine_of l (after l steps) (book_after l steps) n) (load_left steps))

  pub load_stands : (c : Core) (steps : List Step) → IsAfter l c steps → IsAfter l c (moves_of l steps)
  load_stands c steps h =
      subst (λ (x : Core). IsAfter l x (moves_of l steps)) (load_machine steps ∙ sym (named_machine l c steps h))
      (stands_after l (moves_of l steps) h.accepted)

  to_moves : (steps : List Step) → AreEnabled (step (design_of l)) (first_state l) steps → AreMoves l steps
  to_moves steps are before attempt behind is =
      subst (λ (s : State). IsEnabled (step (design_of l)) s attempt)
      (attempts_are (design_of l) (first_state l) before) (are before attempt behind is)

  of_moves : (steps : List Step) → AreMoves l steps → AreEnabled (step (design_of l)) (first_state l) steps
  of_moves steps are before attempt behind is =
      subst (λ (s : State). IsEnabled (step (design_of l)) s attempt)
      (sym (attempts_are (design_of l) (first_state l) before)) (are before attempt behind is)

  pub load_enabled : (steps : List Step) → AreMoves l (moves_of l steps)
  load_enabled steps = to_moves (moves_of l steps) (generic.enabled (step (design_of l)) (first_state l) steps)

  pub load_all : (steps : List Step) → AreMoves l steps → moves_of l steps ≡ steps
  load_all steps are = generic.all (step (design_of l)) (first_state l) steps (of_moves steps are)

  pub load_few : (c : Core) (steps : List Step) → IsAfter l c steps
      → length (moves_of l steps) + c.moves_left ≡ most_moves l
  load_few c steps h =
      let made = load_count steps in
      let both = all_moves l c steps h in
      omega (arith, made, both)

-- from a machine
state_with : (c : Core) (x : Step) (o : Option State)
    → (core_with c (event_in (built_to c) c.state x) o).state ≡ rounds.or_same c.state o
state_with c x None = refl
state_with c x (Some t) = refl

design_with : (c : Core) (x : Step) (o : Option State)
    → built_to (core_with c (event_in (built_to c) c.state x) o) ≡ built_to c
design_with c x None = refl
design_with c x (Some t) = refl

pub state_next : (c : Core) (x : Step) → (core_next c x).state ≡ rounds.or_same c.state (step (built_to c) c.state x)
state_next c x = state_with c x (step (built_to c) c.state x)

pub design_next : (c : Core) (x : Step) → built_to (core_next c x) ≡ built_to c
design_next c x = design_with c x (step (built_to c) c.state x)

pub state_after : (c : Core) (steps : List Step)
    → (core_after c steps).state ≡ after_attempts (step (built_to c)) c.state steps
state_after c [] = refl
state_after c (x ∷ steps) =
    state_after (core_next c x) steps
    ∙ (ap (λ (d : Design). after_attempts (step d) (core_next c x).state steps) (design_next c x)
    ∙ ap (λ (s : State). after_attempts (step (built_to c)) s steps) (state_next c x))

pub design_after : (c : Core) (steps : List Step) → built_to (core_after c steps) ≡ built_to c
design_after c [] = refl
design_after c (x ∷ steps) = design_after (core_next c x) steps ∙ design_next c x

-- the moves of further steps, of the machine after the first
moves_next : (c : Core) (x : Step) (steps : List Step)
    → enabled_of (step (built_to c)) (rounds.or_same c.state (step (built_to c) c.state x)) steps
    ≡ moves_from (core_next c x) steps
moves_next c x steps =
    ap (λ (s : State). enabled_of (step (built_to c)) s steps) (sym (state_next c x))
    ∙ ap (λ (d : Design). enabled_of (step d) (core_next c x).state steps) (sym (design_next c x))

machine_by : (c : Core) (x : Step) (xs : List Step) (o : Option State) → step (built_to c) c.state x ≡ o
    → core_after c (ahead_if_moved x o xs) ≡ core_after (core_next c x) xs
machine_by c x xs None is =
    ap (λ (o : Option State). core_after (core_with c (event_in (built_to c) c.state x) o) xs) (sym is)
machine_by c x xs (Some t) is = refl

pub machine_alike : (c : Core) (steps : List Step) → core_after c (moves_from c steps) ≡ core_after c steps
machine_alike c [] = refl
machine_alike c (x ∷ steps) =
    ap (λ (xs : List Step). core_after c (ahead_if_moved x (step (built_to c) c.state x) xs)) (moves_next c x steps)
    ∙ (machine_by c x (moves_from (core_next c x) steps) (step (built_to c) c.state x) refl
    ∙ machine_alike (core_next c x) steps)

module _ (c : Core) where
  pub machine_again : (steps : List Step) → moves_from c (moves_from c steps) ≡ moves_from c steps
  machine_again steps = generic.again (step (built_to c)) c.state steps

  pub machine_count : (steps : List Step) → length (moves_from c steps) ≡ moves_in (step (built_to c)) c.state steps
  machine_count steps = generic.count (step (built_to c)) c.state steps

  pub machine_enabled : (steps : List Step) → AreMovesFrom c (moves_from c steps)
  machine_enabled steps before attempt behind is =
      subst (λ (s : State). IsEnabled (step (built_to c)) s attempt) (sym (state_after c before))
      (generic.enabled (step (built_to c)) c.state steps before attempt behind is)

  pub machine_all : (steps : List Step) → AreMovesFrom c steps → moves_from c steps ≡ steps
  machine_all steps are = generic.all (step (built_to c)) c.state steps (λ before attempt behind is.
      subst (λ (s : State). IsEnabled (step (built_to c)) s attempt) (state_after c before)
      (are before attempt behind is))

  pub machine_joined : (steps more : List Step)
      → moves_from c (steps ++ more) ≡ moves_from c steps ++ moves_from (core_after c steps) more
  machine_joined steps more =
      generic.joined (step (built_to c)) c.state steps more
      ∙ (ap (λ (s : State). moves_from c steps ++ enabled_of (step (built_to c)) s more) (sym (state_after c steps))
      ∙ ap (λ (d : Design). moves_from c steps ++ enabled_of (step d) (core_after c steps).state more)
      (sym (design_after c steps)))

module _ (l : Load) (c : Core) (before steps : List Step) (h : IsAfter l c before) where
  pub machine_stands : IsAfter l (core_after c steps) (before ++ moves_from c steps)
  machine_stands =
      subst (λ (x : Core). IsAfter l x (before ++ moves_from c steps)) (machine_alike c steps)
      (after_steps l c before (moves_from c steps) h)

  pub machine_further : moves_of l (before ++ steps) ≡ moves_of l before ++ moves_from c steps
  machine_further =
      generic.joined (step (design_of l)) (first_state l) before steps
      ∙ (ap (λ (s : State). moves_of l before ++ enabled_of (step (design_of l)) s steps)
      (attempts_are (design_of l) (first_state l) before ∙ sym h.state)
      ∙ ap (λ (d : Design). moves_of l before ++ enabled_of (step d) c.state steps) (sym (built l c before h)))

  pub machine_few : length (moves_from c steps) ≤ c.moves_left
  machine_few =
      let made = machine_count c steps in
      let most = most_left l c before h steps in
      omega (arith, made, most)
