-- A bank keeps within its room, and one without room has no request left to serve.
use Rattle.std.proofs.Common.{◌≡◌, ℕ, ◌≤◌, List, length, Option, Some, None, refl, sym, ◌∙◌, ap, arith, slice_get, slice_set}
use Rattle.std.specs.Prelude.{option_and_then, option_map}
use Rattle.std.proofs.lemmas.Option.{get_or_from_slice_get}
use Rattle.torus.specs.Shape.{tiles_of}
use Rattle.torus.specs.declared.step.Choice.{Choice}
use Rattle.torus.specs.declared.step.Choice.TheVariants as choice
use Rattle.torus.specs.declared.step.Step.{Step}
use Rattle.packet.specs.declared.kinds.Request.{Request}
use Rattle.flit_buffer.specs.Surroundings.{Surroundings, step_with, granted}
use Rattle.flit_buffer.specs.declared.want.Want.TheVariants.{Access}
use Rattle.home_bank.specs.Beginning.{bank_wiring}
use Rattle.home_bank.specs.BankTable.{BankState, bank_wants, bank_after}
use Rattle.home_bank.specs.ServiceList.{address_of}
use Rattle.one_order.specs.Room.{home_room}
use Rattle.one_order.proofs.Parts.{list_at_map}
use Rattle.one_order.proofs.Reports.{all_followable, course_within}
use Rattle.core_laws.specs.Agent.{Agent}
use Rattle.core_laws.specs.Agent.TheVariants.{Bank}
use Rattle.core_laws.specs.Tile.{Design, TileState, tile_step}
use Rattle.core_laws.specs.Agents.{TilePlace, agent_kind, agent_tile}
use Rattle.core_laws.specs.Core.{Load, State, design_of, step}
use Rattle.core_laws.specs.Noted.{flight_after, move_after}
use Rattle.core_laws.specs.Runs.{IsAcceptedLoad, state_after}
use Rattle.core_laws.proofs.AskedFor.{bank_asked}
use Rattle.core_laws.proofs.CourseRuns.{is_course}
use Rattle.core_laws.proofs.FlightSteps.{entries_in}
use Rattle.core_laws.proofs.Stands.{no_tile}
use Rattle.core_laws.proofs.RowSteps.{step_of_tile}
use Rattle.core_laws.specs.Seen.{IsShown}
use Rattle.core_laws.proofs.Tries.{tile_shown}

-- where no request waits, no service is enabled
none_served : (d : Design) (t : ℕ) (tile : TileState) (around : Surroundings) → tile.bank.waiting ≡ None → tile_step d t tile around Bank choice.Serve ≡ None
none_served d t tile around none =
    let into : BankState × Surroundings → TileState × Surroundings = λ p. (record tile { bank = p.0 }, p.1) in
    ap (λ (w : Option Request). option_map into
    (option_and_then (λ want. step_with (bank_wants (tiles_of d.shape) t) (bank_after (tiles_of d.shape) t) d.depth (bank_wiring d.shape t) tile.bank around
    choice.Serve want (granted around (bank_wiring d.shape t) want))
    (option_map (λ r. Access (address_of t (tiles_of d.shape) r.word) r.op) w))) none

module _ (l : Load) (ok : IsAcceptedLoad l) (steps : List Step) (n : ℕ) where
  abbrev s : State
  s = state_after l steps n

  module _ (t : ℕ) (tile : TileState) (there : slice_get s.tiles t ≡ Some tile) where
    -- a bank has at most as many entries as it has room
    pub within_room : length tile.bank.entries ≤ home_room (tiles_of l.shape) t l.scripts
    within_room =
        let w = course_within (tiles_of l.shape) l.tags l.opening l.scripts (flight_after l steps) (move_after l steps) n (is_course l ok steps n)
        (all_followable (tiles_of l.shape) l.tags l.opening l.scripts (flight_after l steps) (move_after l steps) ok.scripts) in
        let homes = w.homes t in
        let here = ap length (list_at_map entries_in no_tile refl s.tiles t) in
        let same = ap (λ (x : TileState). length x.bank.entries) (get_or_from_slice_get s.tiles t tile no_tile there) in
        omega (arith, homes, here, same)

    -- a full bank has no request that waits
    none_waits : length tile.bank.entries ≡ home_room (tiles_of l.shape) t l.scripts → (w : Option Request) → tile.bank.waiting ≡ w → w ≡ None
    none_waits full None e = refl
    none_waits full (Some r) e =
        let asks = bank_asked l ok steps n t tile there in
        let room = asks.room r e in
        absurd (omega (arith, full, room))

    idle : length tile.bank.entries ≡ home_room (tiles_of l.shape) t l.scripts → tile_step (design_of l) t tile s.around Bank choice.Serve ≡ None
    idle full = none_served (design_of l) t tile s.around (none_waits full tile.bank.waiting refl)

  -- so a full bank serves nothing
  full_at : (attempt : Step) (tile : TileState) → slice_get s.tiles (agent_tile attempt.agent) ≡ Some tile
      → length tile.bank.entries ≡ home_room (tiles_of l.shape) (agent_tile attempt.agent) l.scripts
      → agent_kind attempt.agent ≡ Bank → attempt.choice ≡ choice.Serve → step (design_of l) s attempt ≡ None
  full_at attempt tile there full third serves =
      let tried : Agent → Choice → Option (TileState × Surroundings) = λ a c. tile_step (design_of l) (agent_tile attempt.agent) tile s.around a c in
      step_of_tile (design_of l) s attempt tile there
      ∙ ap (λ (o : Option (TileState × Surroundings)). option_map (λ p. record { tiles = slice_set s.tiles (agent_tile attempt.agent) p.0; around = p.1 }) o)
      (ap (λ (a : Agent). tried a attempt.choice) third ∙ (ap (λ (c : Choice). tried Bank c) serves ∙ idle (agent_tile attempt.agent) tile there full))

  pub full_reached : (t : ℕ) (tile : TileState) → slice_get s.tiles t ≡ Some tile
      → length tile.bank.entries ≡ home_room (tiles_of l.shape) t l.scripts
      → (attempt : Step) → agent_tile attempt.agent ≡ t → agent_kind attempt.agent ≡ Bank → attempt.choice ≡ choice.Serve → step (design_of l) s attempt ≡ None
  full_reached t tile there full attempt own =
      full_at attempt tile (ap (λ (k : ℕ). slice_get s.tiles k) own ∙ there) (full ∙ ap (λ (k : ℕ). home_room (tiles_of l.shape) k l.scripts) (sym own))

pub full_shown : (l : Load) (ok : IsAcceptedLoad l) (steps : List Step) (n : ℕ) (places : List TilePlace) (row : List ℕ)
    → IsShown (design_of l) (state_after l steps n) places row → (attempt : Step) (p : TilePlace) → slice_get places (agent_tile attempt.agent) ≡ Some p
    → length p.bank.state.entries ≡ home_room (tiles_of l.shape) (agent_tile attempt.agent) l.scripts
    → agent_kind attempt.agent ≡ Bank → attempt.choice ≡ choice.Serve → step (design_of l) (state_after l steps n) attempt ≡ None
full_shown l ok steps n places row shown attempt p there full =
    let k = tile_shown l ok steps n places row shown attempt p there in
    full_at l ok steps n attempt k.0 k.1 (ap (λ (q : TilePlace). length q.bank.state.entries) k.2 ∙ full)
