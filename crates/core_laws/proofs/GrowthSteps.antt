-- A step of a machine that is handed a line: where it is enabled without the line, it is enabled with it, leaves the
-- same but for the line, and is the same event.
use Rattle.std.proofs.Common.{◌≡◌, ℕ, false, List, Option, Some, None, refl, sym, ◌∙◌, ap, subst, slice_get, slice_set, slice_index_or, inl, inr}
use Rattle.std.specs.Prelude.{option_and_then, option_map}
use Rattle.std.proofs.lemmas.Option.{same_Some}
use Rattle.std.proofs.lemmas.Bool.{cases_eq}
use Rattle.torus.specs.declared.step.Step.{Step}
use Rattle.script_lines.specs.declared.line.Line.{Line}
use Rattle.one_order.specs.Events.{Served, Answered}
use Rattle.flit_buffer.specs.Surroundings.{Surroundings}
use Rattle.one_order.specs.ProcessorRecord.{ProcessorRecord, no_processor, index_of, operation_under, answer_of, record_with}
use Rattle.one_order.specs.Flight.{Move, Sends, Serves, Takes, flight_event}
use Rattle.core_laws.specs.Agent.{Agent}
use Rattle.core_laws.specs.Tile.{Design, TileState, tile_step}
use Rattle.core_laws.specs.Agents.{agent_kind, agent_tile}
use Rattle.core_laws.specs.Core.{State, step, records_of}
use Rattle.core_laws.specs.Moves.{tile_move, move_of}
use Rattle.core_laws.specs.Runs.{without_packets}
use Rattle.core_laws.proofs.AgentSteps.{option_map_some}
use Rattle.core_laws.specs.Machine.{event_in}
use Rattle.core_laws.specs.Appended.{changed_at, tile_with, state_with, IsUnreported}
use Rattle.core_laws.proofs.Places.{get_other, get_same, set_other, set_same, part_same, map_changed, written_other, written_same}
use Rattle.core_laws.proofs.HandedTiles.{same_step}

-- the records of the processors with the line
records_with : (s : State) (p : ℕ) (line : Line)
    → records_of (state_with s p line) ≡ changed_at (record_with line) (records_of s) p
records_with s p line =
    map_changed (tile_with line) (λ (t : TileState). t.processor.operations) (record_with line) (λ t. refl) s.tiles p

-- what is told of the record of a processor, where the line doesn't matter
told_same : {X : Type 0} (h : ProcessorRecord → X) (s : State) (p : ℕ) (line : Line) (t : ℕ)
    → ((b : ProcessorRecord) → h (record_with line b) ≡ h b)
    → h (slice_index_or (records_of (state_with s p line)) t no_processor)
    ≡ h (slice_index_or (records_of s) t no_processor)
told_same h s p line t keeps =
    ap (λ (bs : List ProcessorRecord). h (slice_index_or bs t no_processor)) (records_with s p line)
    ∙ part_same (record_with line) h keeps (records_of s) p t no_processor

-- the event of a move
event_same : (words : ℕ) (s : State) (p : ℕ) (line : Line) (m : Option Move)
    → flight_event (without_packets words (state_with s p line)) m ≡ flight_event (without_packets words s) m
event_same words s p line None = refl
event_same words s p line (Some (Sends t tag o)) = refl
event_same words s p line (Some (Serves r)) =
    told_same (λ (b : ProcessorRecord). Served r.source (index_of b r.tag.0) r.tag (operation_under b r.tag.0)) s p line
    r.source (λ b. refl)
event_same words s p line (Some (Takes r)) =
    told_same (λ (b : ProcessorRecord). Answered r.destination (answer_of b r)) s p line r.destination (λ b. refl)

module _ (d : Design) (s : State) (line : Line) (attempt : Step) where
  abbrev i : ℕ
  i = agent_tile attempt.agent

  abbrev agent : Agent
  agent = agent_kind attempt.agent

  -- the state with a tile and surroundings in place of what they were
  abbrev left : List TileState → TileState × Surroundings → State
  left tiles q = record { tiles = slice_set tiles (agent_tile attempt.agent) q.0; around = q.1 }

  abbrev made : List TileState → Surroundings → State
  made ts a = record { tiles = ts; around = a }

  abbrev stepped : List TileState → Option TileState → Option State
  stepped tiles o =
      option_and_then
      (λ (v : TileState). option_map (left tiles)
      (tile_step d (agent_tile attempt.agent) v s.around (agent_kind attempt.agent) attempt.choice)) o

  abbrev move_at : Option TileState → Option Move
  move_at o =
      option_and_then
      (λ (v : TileState). tile_move d (agent_tile attempt.agent) v s.around (agent_kind attempt.agent)
      attempt.choice) o

  pub record Grows (p : ℕ) (t : State) : Type 0 where
    pub unreported : IsUnreported s p
    pub step : step d (state_with s p line) attempt ≡ Some (state_with t p line)
    pub move : move_of d (state_with s p line) attempt ≡ move_of d s attempt

  -- a step of the tile that is handed the line
  of_this : (tile : TileState) (q : TileState × Surroundings) → slice_get s.tiles i ≡ Some tile
      → tile_step d i tile s.around agent attempt.choice ≡ Some q → IsUnreported (left s.tiles q) i
      → Grows i (left s.tiles q)
  of_this tile q there is un =
      let now : slice_get (slice_set s.tiles (agent_tile attempt.agent) q.0) (agent_tile attempt.agent) ≡ Some q.0 =
      written_same s.tiles (agent_tile attempt.agent) tile q.0 there in
      let un_left : q.0.processor.reported ≡ false =
      ap (λ (t : TileState). t.processor.reported) (same_Some q.0 un.tile (sym now ∙ un.there)) ∙ un.unreported in
      let x = same_step d (agent_tile attempt.agent) line tile s.around (agent_kind attempt.agent) attempt.choice q
      is un_left in
      let there_with : slice_get (changed_at (tile_with line) s.tiles (agent_tile attempt.agent)) (agent_tile attempt.agent)
      ≡ Some (tile_with line tile) =
      get_same (tile_with line) s.tiles (agent_tile attempt.agent) tile there in
      record {
        unreported = record { tile = tile; there = there; unreported = x.unreported };
        step =
            ap (stepped (changed_at (tile_with line) s.tiles (agent_tile attempt.agent))) there_with
            ∙ (ap (option_map (left (changed_at (tile_with line) s.tiles (agent_tile attempt.agent)))) x.step
            ∙ ap (λ (ts : List TileState). Some (made ts q.1))
            (set_same (tile_with line) s.tiles (agent_tile attempt.agent) q.0));
        move = ap move_at there_with ∙ (x.move ∙ sym (ap move_at there));
      }

  -- a step of another tile
  of_other : (p : ℕ) (tile : TileState) (q : TileState × Surroundings) → (i ≡ p → ⊥) → slice_get s.tiles i ≡ Some tile
      → tile_step d i tile s.around agent attempt.choice ≡ Some q → IsUnreported (left s.tiles q) p
      → Grows p (left s.tiles q)
  of_other p tile q apart there is un =
      let there_with : slice_get (changed_at (tile_with line) s.tiles p) (agent_tile attempt.agent) ≡ Some tile =
      get_other (tile_with line) s.tiles p (agent_tile attempt.agent) apart ∙ there in
      record {
        unreported = record {
          tile = un.tile;
          there = sym (written_other s.tiles p (agent_tile attempt.agent) q.0 apart) ∙ un.there;
          unreported = un.unreported;
        };
        step =
            ap (stepped (changed_at (tile_with line) s.tiles p)) there_with
            ∙ (ap (option_map (left (changed_at (tile_with line) s.tiles p))) is
            ∙ ap (λ (ts : List TileState). Some (made ts q.1))
            (set_other (tile_with line) s.tiles p (agent_tile attempt.agent) q.0 apart));
        move = ap move_at there_with ∙ sym (ap move_at there);
      }

  by_place : (p : ℕ) (tile : TileState) (q : TileState × Surroundings) → slice_get s.tiles i ≡ Some tile
      → tile_step d i tile s.around agent attempt.choice ≡ Some q → IsUnreported (left s.tiles q) p
      → Grows p (left s.tiles q)
  by_place p tile q there is un = elim (cases_eq i p) [
    | inl same ↦ subst (λ (k : ℕ). IsUnreported (left s.tiles q) k → Grows k (left s.tiles q)) same
        (of_this tile q there is) un
    | inr apart ↦ of_other p tile q apart there is un
  ]

  by_tile : (p : ℕ) (t : State) (o : Option TileState) → slice_get s.tiles i ≡ o → stepped s.tiles o ≡ Some t
      → IsUnreported t p → Grows p t
  by_tile p t None there h un = absurd (cc)
  by_tile p t (Some tile) there h un =
      let x = option_map_some (left s.tiles) (tile_step d i tile s.around agent attempt.choice) t h in
      subst (λ (u : State). IsUnreported u p → Grows p u) x.2 (by_place p tile x.0 there x.1) un

  -- Where a step is enabled and leaves processor p unreported, it is enabled with the line too, and was a step from a
  -- state where p was unreported.
  pub grown_step : (p : ℕ) (t : State) → step d s attempt ≡ Some t → IsUnreported t p → Grows p t
  grown_step p t h un = by_tile p t (slice_get s.tiles i) refl h un

  pub same_event : (p : ℕ) (t : State) → Grows p t → event_in d (state_with s p line) attempt ≡ event_in d s attempt
  same_event p t g =
      ap (flight_event (without_packets d.words (state_with s p line))) g.move
      ∙ event_same d.words s p line (move_of d s attempt)

-- who was unreported still is
pub unreported_with : (s : State) (p q : ℕ) (line : Line) → IsUnreported s q → IsUnreported (state_with s p line) q
unreported_with s p q line un = elim (cases_eq q p) [
  | inl same ↦ record {
    tile = tile_with line un.tile;
    there = subst (λ (k : ℕ). slice_get (changed_at (tile_with line) s.tiles k) q ≡ Some (tile_with line un.tile)) same
        (get_same (tile_with line) s.tiles q un.tile un.there);
    unreported = un.unreported;
  }
  | inr apart ↦ record {
    tile = un.tile;
    there = get_other (tile_with line) s.tiles p q apart ∙ un.there;
    unreported = un.unreported;
  }
]
