-- Who has reported, and agents that don't see a further line.
use Rattle.std.proofs.Common.{◌≡◌, ◌≢◌, ℕ, zero, suc, ◌<◌, Bool, true, false, List, [], ◌∷◌, map, length, Option, Some, None, refl, sym, ◌∙◌}
use Rattle.std.proofs.Common.{ap, subst, arith, slice_get, slice_set, inl, inr}
use Rattle.std.specs.Prelude.{option_and_then, option_map}
use Rattle.std.proofs.lemmas.Bool.{cases_eq}
use Rattle.std.proofs.lemmas.Option.{same_Some}
use Rattle.std.proofs.lemmas.List.{take_all}
use Rattle.torus.specs.Shape.{tiles_of, dims_of}
use Rattle.torus.specs.declared.step.Step.{Step}
use Rattle.torus.specs.declared.step.Choice.{Choice}
use Rattle.torus.specs.declared.step.Choice.TheVariants as choice
use Rattle.script_lines.specs.declared.line.Line.{Line}
use Rattle.flit_buffer.specs.Surroundings.{Surroundings}
use Rattle.flit_buffer.specs.declared.want.Want.{Want}
use Rattle.one_order.specs.Following.{is_finished}
use Rattle.one_order.specs.ProcessorTable.{ProcessorState, processor_wants, processor_after}
use Rattle.router.specs.Table.{RouterState}
use Rattle.home_bank.specs.BankTable.{BankState}
use Rattle.core_laws.specs.Wiring.{processor_wiring}
use Rattle.core_laws.specs.Agent.{Agent}
use Rattle.core_laws.specs.Agent.TheVariants.{Processor, Router, Bank}
use Rattle.core_laws.specs.Tile.{Design, TileState, tile_step}
use Rattle.core_laws.specs.Agents.{agent_number, agent_kind, agent_tile}
use Rattle.core_laws.proofs.AgentNumbers.{number_is}
use Rattle.core_laws.specs.Core.{Load, State, first_state, first_tile, step, or_same, next, after, after_from, design_of}
use Rattle.core_laws.specs.Reports.{CountsReports}
use Rattle.core_laws.proofs.AgentSteps.{did, option_map_some}
use Rattle.core_laws.proofs.Reached.{reports_counted}
use Rattle.core_laws.specs.Machine.{Core, IsAfter}
use Rattle.core_laws.specs.Appended.{changed_at, tile_with, state_with, IsUnreported, IsNoReport}
use Rattle.core_laws.proofs.Places.{get_other, get_map, set_other, set_same, written_other, written_same}
use Rattle.core_laws.proofs.HandedTiles.{other_agent, pair_with}

-- at first nobody has
pub first_unreported : (l : Load) (p : ℕ) → p < length l.scripts → IsUnreported (first_state l) p
first_unreported l p low = unreported_in l.scripts p low
  where
    unreported_in : (scripts : List (List Line)) (p : ℕ) → p < length scripts
        → IsUnreported (record {
          tiles = map (first_tile (dims_of l.shape) l.tags) scripts;
          around = (first_state l).around;
        }) p
    unreported_in [] p low = absurd (omega (arith, low))
    unreported_in (x ∷ xs) zero low = record {
      tile = first_tile (dims_of l.shape) l.tags x;
      there = refl;
      unreported = refl;
    }
    unreported_in (x ∷ xs) (suc p) low =
        let rest = unreported_in xs p (omega (arith, low)) in
        record { tile = rest.tile; there = rest.there; unreported = rest.unreported }

bool_false : (b : Bool) → (b ≡ true → ⊥) → b ≡ false
bool_false true never = absurd (never refl)
bool_false false never = refl

-- only processors that are finished have
pub unfinished_unreported : (l : Load) (c : Core) (steps : List Step) (p : ℕ) (tile : TileState) → IsAfter l c steps
    → slice_get c.state.tiles p ≡ Some tile
    → is_finished tile.processor.operations.following ≡ false → IsUnreported c.state p
unfinished_unreported l c steps p tile h there goes_on =
    let at_end : after l steps ≡ c.state = sym h.state in
    let counted : CountsReports (design_of l) c.state =
    subst (CountsReports (design_of l)) (ap (after l) (take_all (length steps) steps (omega arith)) ∙ sym h.state)
    (reports_counted l h.accepted steps (length steps)) in
    record {
      tile = tile;
      there = there;
      unreported = bool_false tile.processor.reported (λ e. let ended = counted.finished p tile there e in absurd (cc));
    }

-- a choice but Done leaves the mark
mark_stays : (tiles words t : ℕ) (p : ProcessorState) (c : Choice) (w : Want) (learned : ℕ) → (c ≡ choice.Done → ⊥)
    → (processor_after tiles words t p c w learned).reported ≡ p.reported
mark_stays tiles words t p choice.Done w learned apart = absurd (apart refl)
mark_stays tiles words t p c w learned apart = refl

tile_stays : (d : Design) (t : ℕ) (tile : TileState) (around : Surroundings) (agent : Agent) (c : Choice)
    (q : TileState × Surroundings)
    → tile_step d t tile around agent c ≡ Some q → (agent ≡ Processor → c ≡ choice.Done → ⊥)
    → q.0.processor.reported ≡ tile.processor.reported
tile_stays d t tile around Processor c q h apart =
    let x = option_map_some (λ (r : ProcessorState × Surroundings). (record tile { processor = r.0 }, r.1)) _ q h in
    let y = did (processor_wants (tiles_of d.shape) d.words t) (processor_after (tiles_of d.shape) d.words t) d.depth
    (processor_wiring d.shape t) tile.processor around c x.0.0 x.0.1 x.1 in
    sym (ap (λ (r : TileState × Surroundings). r.0.processor.reported) x.2)
    ∙ (ap (λ (r : ProcessorState). r.reported) y.state_is
    ∙ mark_stays (tiles_of d.shape) d.words t tile.processor c y.want y.learned (apart refl))
tile_stays d t tile around Router c q h apart =
    let x = option_map_some (λ (r : RouterState × Surroundings). (record tile { router = r.0 }, r.1)) _ q h in
    sym (ap (λ (r : TileState × Surroundings). r.0.processor.reported) x.2)
tile_stays d t tile around Bank c q h apart =
    let x = option_map_some (λ (r : BankState × Surroundings). (record tile { bank = r.0 }, r.1)) _ q h in
    sym (ap (λ (r : TileState × Surroundings). r.0.processor.reported) x.2)

module _ (d : Design) (s : State) (attempt : Step) where
  abbrev made : List TileState → Surroundings → State
  made ts a = record { tiles = ts; around = a }

  abbrev left : List TileState → TileState × Surroundings → State
  left tiles q = record { tiles = slice_set tiles (agent_tile attempt.agent) q.0; around = q.1 }

  abbrev stepped : List TileState → Option TileState → Option State
  stepped tiles o =
      option_and_then
      (λ (v : TileState). option_map (left tiles)
      (tile_step d (agent_tile attempt.agent) v s.around (agent_kind attempt.agent) attempt.choice)) o

  unreported_left : (p : ℕ) (tile : TileState) (q : TileState × Surroundings)
      → slice_get s.tiles (agent_tile attempt.agent) ≡ Some tile
      → tile_step d (agent_tile attempt.agent) tile s.around (agent_kind attempt.agent) attempt.choice ≡ Some q
      → IsNoReport p attempt
      → IsUnreported s p → IsUnreported (left s.tiles q) p
  unreported_left p tile q there is apart un = elim (cases_eq (agent_tile attempt.agent) p) [
    | inl same ↦
        let here : tile ≡ un.tile = same_Some tile un.tile (sym there ∙ (ap (slice_get s.tiles) same ∙ un.there)) in
        let stays =
        tile_stays d (agent_tile attempt.agent) tile s.around (agent_kind attempt.agent) attempt.choice q is
        (λ e. apart (number_is attempt.agent p Processor same e)) in
        record {
          tile = q.0;
          there = subst (λ (k : ℕ). slice_get (slice_set s.tiles (agent_tile attempt.agent) q.0) k ≡ Some q.0) same
              (written_same s.tiles (agent_tile attempt.agent) tile q.0 there);
          unreported = stays ∙ (ap (λ (t : TileState). t.processor.reported) here ∙ un.unreported);
        }
    | inr other ↦ record {
      tile = un.tile;
      there = written_other s.tiles p (agent_tile attempt.agent) q.0 other ∙ un.there;
      unreported = un.unreported;
    }
  ]

  unreported_by : (p : ℕ) (t : State) (o : Option TileState) → slice_get s.tiles (agent_tile attempt.agent) ≡ o
      → stepped s.tiles o ≡ Some t → IsNoReport p attempt
      → IsUnreported s p → IsUnreported t p
  unreported_by p t None there h apart un = absurd (cc)
  unreported_by p t (Some tile) there h apart un =
      let x = option_map_some (left s.tiles)
      (tile_step d (agent_tile attempt.agent) tile s.around (agent_kind attempt.agent) attempt.choice) t h in
      subst (λ (u : State). IsUnreported u p) x.2 (unreported_left p tile x.0 there x.1 apart un)

  -- a step but its Done leaves a processor unreported
  pub unreported_step : (p : ℕ) (t : State) → step d s attempt ≡ Some t → IsNoReport p attempt → IsUnreported s p
      → IsUnreported t p
  unreported_step p t h apart un = unreported_by p t (slice_get s.tiles (agent_tile attempt.agent)) refl h apart un

  unreported_same : (p : ℕ) (o : Option State) → step d s attempt ≡ o → IsNoReport p attempt → IsUnreported s p
      → IsUnreported (or_same s o) p
  unreported_same p None is apart un = un
  unreported_same p (Some t) is apart un = unreported_step p t is apart un

  pub unreported_next : (p : ℕ) → IsNoReport p attempt → IsUnreported s p → IsUnreported (next d s attempt) p
  unreported_next p apart un = unreported_same p (step d s attempt) refl apart un

  -- agents but processor p step as without the line
  module _ (line : Line) where
    map_other : (p : ℕ) (o : Option (TileState × Surroundings)) → (agent_tile attempt.agent ≡ p → ⊥)
        → option_map (left (changed_at (tile_with line) s.tiles p)) o
        ≡ option_map (λ (t : State). state_with t p line) (option_map (left s.tiles) o)
    map_other p None apart = refl
    map_other p (Some q) apart =
        ap (λ (ts : List TileState). Some (made ts q.1))
        (set_other (tile_with line) s.tiles p (agent_tile attempt.agent) q.0 apart)

    map_this : (o : Option (TileState × Surroundings))
        → option_map (left (changed_at (tile_with line) s.tiles (agent_tile attempt.agent)))
        (option_map (pair_with d (agent_tile attempt.agent) line) o)
        ≡ option_map (λ (t : State). state_with t (agent_tile attempt.agent) line) (option_map (left s.tiles) o)
    map_this None = refl
    map_this (Some q) =
        ap (λ (ts : List TileState). Some (made ts q.1)) (set_same (tile_with line) s.tiles (agent_tile attempt.agent) q.0)

    at_other : (p : ℕ) (o : Option TileState) → (agent_tile attempt.agent ≡ p → ⊥)
        → stepped (changed_at (tile_with line) s.tiles p) o
        ≡ option_map (λ (t : State). state_with t p line) (stepped s.tiles o)
    at_other p None apart = refl
    at_other p (Some v) apart =
        map_other p (tile_step d (agent_tile attempt.agent) v s.around (agent_kind attempt.agent) attempt.choice)
        apart

    at_this : (o : Option TileState) → (agent_kind attempt.agent ≡ Processor → ⊥)
        → stepped (changed_at (tile_with line) s.tiles (agent_tile attempt.agent)) (option_map (tile_with line) o)
        ≡ option_map (λ (t : State). state_with t (agent_tile attempt.agent) line) (stepped s.tiles o)
    at_this None apart = refl
    at_this (Some v) apart =
        ap (option_map (left (changed_at (tile_with line) s.tiles (agent_tile attempt.agent))))
        (other_agent d (agent_tile attempt.agent) line v s.around (agent_kind attempt.agent) attempt.choice
        apart)
        ∙ map_this (tile_step d (agent_tile attempt.agent) v s.around (agent_kind attempt.agent) attempt.choice)

    this_tile : (agent_kind attempt.agent ≡ Processor → ⊥)
        → step d (state_with s (agent_tile attempt.agent) line) attempt
        ≡ option_map (λ (t : State). state_with t (agent_tile attempt.agent) line) (step d s attempt)
    this_tile apart =
        ap (stepped (changed_at (tile_with line) s.tiles (agent_tile attempt.agent)))
        (get_map (tile_with line) s.tiles (agent_tile attempt.agent))
        ∙ at_this (slice_get s.tiles (agent_tile attempt.agent)) apart

    pub others_step : (p : ℕ) → attempt.agent ≢ agent_number p Processor
        → step d (state_with s p line) attempt ≡ option_map (λ (t : State). state_with t p line) (step d s attempt)
    others_step p apart = elim (cases_eq (agent_tile attempt.agent) p) [
      | inl same ↦ subst
          (λ (k : ℕ). (attempt.agent ≢ agent_number k Processor)
          → step d (state_with s k line) attempt ≡ option_map (λ (t : State). state_with t k line) (step d s attempt))
          same
          (λ away. this_tile (λ e. away (number_is attempt.agent (agent_tile attempt.agent) Processor refl e))) apart
      | inr other ↦
          ap (stepped (changed_at (tile_with line) s.tiles p))
          (get_other (tile_with line) s.tiles p (agent_tile attempt.agent) other)
          ∙ at_other p (slice_get s.tiles (agent_tile attempt.agent)) other
    ]

-- and a list of steps without its Done
pub unreported_after : (d : Design) (s : State) (p : ℕ) (steps : List Step)
    → ((k : ℕ) (attempt : Step) → slice_get steps k ≡ Some attempt → IsNoReport p attempt)
    → IsUnreported s p → IsUnreported (after_from d s steps) p
unreported_after d s p [] apart un = un
unreported_after d s p (x ∷ steps) apart un =
    unreported_after d (next d s x) p steps (λ k. apart (suc k)) (unreported_next d s x p (apart 0 x refl) un)
