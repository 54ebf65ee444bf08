-- Where steps lead from a load: the machine there, and further steps.
use Rattle.std.proofs.Common.{◌≡◌, ◌↔◌, ℕ, ◌-◌, ◌<◌, true, List, [], ◌∷◌, ◌++◌, length, Option, Some, None, refl, sym, ◌∙◌, ap, subst, arith}
use Rattle.std.proofs.Common.{slice_get, append_assoc, map}
use Rattle.std.specs.Prelude.{option_and_then, option_map, slice_set}
use Rattle.std.proofs.lemmas.List.{append-nil}
use Rattle.torus.specs.Shape.{Shape, tiles_of}
use Rattle.torus.specs.declared.step.Step.{Step}
use Rattle.torus.specs.declared.step.Choice.{Choice}
use Rattle.script_lines.specs.Lines.{operation_count}
use Rattle.one_order.specs.declared.ordered.Ordered.{Ordered}
use Rattle.one_order.specs.Order.{LinearizationPoint, IsLegalOrder, StandsBefore}
use Rattle.one_order.specs.Consequences.{Precedes}
use Rattle.one_order.specs.Events.{Event}
use Rattle.one_order.proofs.EventNumbers.{real_time, real_time_of_rows}
use Rattle.flit_buffer.specs.Surroundings.{Surroundings}
use Rattle.one_order.specs.Flight.{Move, flight_event}
use Rattle.one_order.specs.AbstractScripts.{AreFinished}
use Rattle.one_order.specs.EventBook.{EventBook, first_book, noted_event}
use Rattle.core_laws.specs.Agent.{Agent}
use Rattle.core_laws.specs.Tile.{Design, TileState, tile_step}
use Rattle.core_laws.specs.Agents.{agent_kind, agent_tile}
use Rattle.core_laws.specs.Core.{Load, State, design_of, step, or_same, first_state, after, run_of}
use Rattle.core_laws.specs.Moves.{move_of, tile_move}
use Rattle.core_laws.specs.Runs.{IsAcceptedLoad, without_packets}
use Rattle.core_laws.proofs.AgentSteps.{option_map_none}
use Rattle.core_laws.proofs.FlightSteps.{refused_tile}
use Rattle.core_laws.specs.Rounds.{one_if_moved}
use Rattle.core_laws.specs.ProgressMoves.{moves_left}
use Rattle.core_laws.specs.Machine.{Core, IsAfter, event_in, book_after, core_after_load, core_with, core_next, core_after, all_finished}
use Rattle.core_laws.specs.Reported.{ReportsWell}
use Rattle.core_laws.proofs.Books.{after_append, book_append}
use Rattle.core_laws.proofs.Counted.{left_push}
use Rattle.core_laws.proofs.Lawful.{lawful, shows, finishes}

abbrev core : Shape → ℕ → ℕ → List ℕ → List ℕ → State → EventBook → ℕ → Core
core shape depth tags opening allowed state book left =
    record { shape = shape; depth = depth; tags = tags; opening = opening; allowed = allowed; state = state; book = book; moves_left = left }

-- what the steps reach from the load is the machine that they lead to
pub named_machine : (l : Load) (c : Core) (steps : List Step) → IsAfter l c steps → c ≡ core_after_load l steps
named_machine l c steps f =
    let allowed : List ℕ = map operation_count l.scripts in
    ap (λ (x : Shape). core x c.depth c.tags c.opening c.allowed c.state c.book c.moves_left) f.shape
    ∙ (ap (λ (x : ℕ). core l.shape x c.tags c.opening c.allowed c.state c.book c.moves_left) f.depth
    ∙ (ap (λ (x : ℕ). core l.shape l.depth x c.opening c.allowed c.state c.book c.moves_left) f.tags
    ∙ (ap (λ (x : List ℕ). core l.shape l.depth l.tags x c.allowed c.state c.book c.moves_left) f.opening
    ∙ (ap (λ (x : List ℕ). core l.shape l.depth l.tags l.opening x c.state c.book c.moves_left) f.allowed
    ∙ (ap (λ (x : State). core l.shape l.depth l.tags l.opening allowed x c.book c.moves_left) f.state
    ∙ (ap (λ (x : EventBook). core l.shape l.depth l.tags l.opening allowed (after l steps) x c.moves_left) f.book
    ∙ ap (core l.shape l.depth l.tags l.opening allowed (after l steps) (book_after l steps)) f.moves))))))

-- and it stands after them
pub stands_after : (l : Load) (steps : List Step) → IsAcceptedLoad l → IsAfter l (core_after_load l steps) steps
stands_after l steps ok = record {
  accepted = ok;
  shape = refl;
  depth = refl;
  tags = refl;
  opening = refl;
  allowed = refl;
  state = refl;
  book = refl;
  moves = refl;
  lawful = lawful l ok steps;
}

-- one list of steps from one load reaches one machine
pub same_machine : (l : Load) (c d : Core) (steps : List Step) → IsAfter l c steps → IsAfter l d steps → c ≡ d
same_machine l c d steps f g = named_machine l c steps f ∙ sym (named_machine l d steps g)

-- the machine that steps lead to reports well
led_reports : (l : Load) (steps : List Step) → IsAcceptedLoad l → ReportsWell (core_after_load l steps)
led_reports l steps ok = record { shape = ok.shape; tags = ok.tags.1; words_low = ok.size.0; words_high = ok.size.1; shows = shows l ok steps }

pub reports_well : (l : Load) (c : Core) (steps : List Step) → IsAfter l c steps → ReportsWell c
reports_well l c steps h = subst ReportsWell (sym (named_machine l c steps h)) (led_reports l steps h.accepted)

pub finished_of_machine : (l : Load) (c : Core) (steps : List Step) → IsAfter l c steps
    → (all_finished c.state ≡ true) ↔ AreFinished (run_of l steps) (length steps) l.scripts
finished_of_machine l c steps h =
    subst (λ (s : State). (all_finished s ≡ true) ↔ AreFinished (run_of l steps) (length steps) l.scripts) (sym h.state) (finishes l h.accepted steps)

pub real_time_of_steps : (l : Load) (c : Core) (steps : List Step) → IsAfter l c steps → (order : List LinearizationPoint)
    → IsLegalOrder l.opening (run_of l steps) (length steps) order
    → (p i k : ℕ) (y : LinearizationPoint) → slice_get order k ≡ Some y → Precedes (run_of l steps) p i y.source y.index → StandsBefore order k p i
real_time_of_steps l c steps h order legal = real_time l.opening (run_of l steps) (length steps) order legal h.lawful.order.grows

pub real_time_of_machine : (l : Load) (c : Core) (steps : List Step) → IsAfter l c steps → (j k m : ℕ) (x y : Ordered) → slice_get c.book.rows j ≡ Some x
    → slice_get c.book.rows k ≡ Some y
    → x.answered ≡ Some m → m < y.issued → j < k
real_time_of_machine l c steps h = real_time_of_rows (tiles_of l.shape) l.tags l.opening (run_of l steps) (length steps) c.book.rows h.lawful.order

-- the state with a tile and surroundings in place of what they were
abbrev state_left : State → ℕ → TileState × Surroundings → State
state_left s t p = record { tiles = slice_set s.tiles t p.0; around = p.1 }

-- the state after a choice of a tile's agent
abbrev stepped_at : Design → State → Agent → ℕ → Choice → Option TileState → Option State
stepped_at d s agent t choice tile = option_and_then (λ (v : TileState). option_map (state_left s t) (tile_step d t v s.around agent choice)) tile

-- an attempt that isn't enabled is no move
refused_at : (d : Design) (s : State) (agent : Agent) (t : ℕ) (choice : Choice) (tile : Option TileState) → stepped_at d s agent t choice tile ≡ None
    → option_and_then (λ (v : TileState). tile_move d t v s.around agent choice) tile ≡ None
refused_at d s agent t choice None h = refl
refused_at d s agent t choice (Some tile) h =
    refused_tile d s [] [] t tile agent choice (option_map_none (state_left s t) (tile_step d t tile s.around agent choice) h)

refused_step : (d : Design) (s : State) (attempt : Step) → step d s attempt ≡ None → move_of d s attempt ≡ None
refused_step d s attempt h =
    refused_at d s (agent_kind attempt.agent) (agent_tile attempt.agent) attempt.choice (slice_get s.tiles (agent_tile attempt.agent)) h

module _ (l : Load) (steps : List Step) (attempt : Step) where
  abbrev s : State
  s = after l steps

  abbrev event : Event
  event = event_in (design_of l) s attempt

  abbrev left : ℕ
  left = moves_left l steps (length steps)

  -- the machine of the load in a state, with a book, and with so many moves left
  abbrev of_load : State → EventBook → ℕ → Core
  of_load = core l.shape l.depth l.tags l.opening (map operation_count l.scripts)

  -- the machine that steps lead to, after a further attempt
  led_next : (o : Option State) → step (design_of l) s attempt ≡ o
      → core_with (core_after_load l steps) event o ≡ of_load (or_same s o) (noted_event (tiles_of l.shape) (book_after l steps) event) (left - one_if_moved o)
  led_next None h =
      let stays : left ≡ left - 0 = omega arith in
      ap (λ (m : Option Move). of_load s (noted_event (tiles_of l.shape) (book_after l steps) (flight_event (without_packets (length l.opening) s) m)) left)
      (sym (refused_step (design_of l) s attempt h))
      ∙ ap (of_load s (noted_event (tiles_of l.shape) (book_after l steps) event)) stays
  led_next (Some t) h = refl

  pub led_more : core_next (core_after_load l steps) attempt ≡ core_after_load l (steps ++ attempt ∷ [])
  led_more =
      let o : Option State = step (design_of l) s attempt in
      let more : List Step = steps ++ attempt ∷ [] in
      led_next o refl
      ∙ (ap (λ (t : State). of_load t (noted_event (tiles_of l.shape) (book_after l steps) event) (left - one_if_moved o))
      (sym (after_append (design_of l) (first_state l) steps (attempt ∷ [])))
      ∙ (ap (λ (g : EventBook). of_load (after l more) g (left - one_if_moved o))
      (sym (book_append (design_of l) (first_state l) (first_book (tiles_of l.shape)) steps (attempt ∷ [])))
      ∙ ap (of_load (after l more) (book_after l more)) (sym (left_push l steps attempt))))

-- one step more
pub after_step : (l : Load) (c : Core) (steps : List Step) (attempt : Step) → IsAfter l c steps → IsAfter l (core_next c attempt) (steps ++ attempt ∷ [])
after_step l c steps attempt h =
    subst (λ (x : Core). IsAfter l x (steps ++ attempt ∷ []))
    (sym (ap (λ (x : Core). core_next x attempt) (named_machine l c steps h) ∙ led_more l steps attempt))
    (stands_after l (steps ++ attempt ∷ []) h.accepted)

-- steps more
pub after_steps : (l : Load) (c : Core) (before steps : List Step) → IsAfter l c before → IsAfter l (core_after c steps) (before ++ steps)
after_steps l c before [] h = subst (IsAfter l c) (sym (append-nil before)) h
after_steps l c before (attempt ∷ steps) h =
    subst (IsAfter l (core_after c (attempt ∷ steps))) (append_assoc before (attempt ∷ []) steps)
    (after_steps l (core_next c attempt) (before ++ attempt ∷ []) steps (after_step l c before attempt h))
