-- Every step of the core is an event that may happen, where what holds of reached states holds.
use Rattle.std.proofs.Common.{◌≡◌, ℕ, ◌<◌, List, [], ◌∷◌, ◌++◌, length, map, Option, Some, refl, sym, ◌∙◌, ap, subst, slice_get, slice_index_or}
use Rattle.std.proofs.lemmas.Option.{same_Some, slice_get_within, get_or_from_slice_get, option_and_then_some}
use Rattle.std.proofs.lemmas.List.{get_or-map, length-map}
use Rattle.torus.specs.Shape.{tiles_of}
use Rattle.torus.specs.declared.shape.Class.TheVariants.{Reply}
use Rattle.torus.specs.declared.step.Choice.{Choice}
use Rattle.torus.specs.declared.step.Choice.TheVariants.{Send, Take, TakeFrom, Put, Credit, CreditOf, Serve, Done, Look}
use Rattle.torus.specs.declared.step.Step.{Step}
use Rattle.packet.specs.declared.kinds.Operation.{Operation}
use Rattle.packet.specs.declared.kinds.Packet.TheVariants as packet
use Rattle.packet.specs.declared.kinds.Request.{Request as Asking}
use Rattle.packet.specs.declared.kinds.Response.{Response as Telling}
use Rattle.packet.specs.declared.assembler.Offered.{Offered}
use Rattle.packet.specs.declared.assembler.Offered.TheVariants.{More, Whole as Complete, Refused}
use Rattle.one_order.specs.Following.{next_operation_of}
use Rattle.one_order.specs.Order.{LinearizationPoint}
use Rattle.one_order.specs.Events.{Event, happens, points_of, MayHappen}
use Rattle.flit_buffer.specs.Channel.{first_of, rest}
use Rattle.flit_buffer.specs.Surroundings.{ring}
use Rattle.wormhole.specs.Net.{IsNet}
use Rattle.one_order.specs.ProcessorRecord.{ProcessorRecord, no_processor, ready}
use Rattle.one_order.specs.Flight as flight
use Rattle.one_order.specs.Flight.{Flight, Move, Sends, Serves, Takes, moved_by, flight_event, IsFound}
use Rattle.one_order.proofs.Whole.{Whole, any_steps}
use Rattle.packet.specs.Flits.{offered}
use Rattle.one_order.specs.ProcessorTable.{processor_wants}
use Rattle.channel_number.specs.Ports.{ejection_channel}
use Rattle.tile.specs.Wiring.{processor_wiring}
use Rattle.tile.specs.declared.agent.Agent.{Agent}
use Rattle.tile.specs.declared.agent.Agent.TheVariants.{Processor, Router, Bank}
use Rattle.tile.specs.Tile.{Design, TileState}
use Rattle.tile.specs.Agents.{agent_kind, agent_tile}
use Rattle.core_laws.specs.Core.{State, next, show}
use Rattle.core_laws.specs.Moves.{learned_by, issue_of, answer_by, processor_move, bank_move, tile_move, move_of}
use Rattle.core_laws.proofs.AgentSteps.{option_map_some}
use Rattle.core_laws.proofs.Projection.{net_of}
use Rattle.core_laws.proofs.TileMoves.{IsHere}
use Rattle.core_laws.proofs.FlightSteps.{record_in, flight_with, flight_step}
use Rattle.core_laws.proofs.SendFacts.{ready_parts}
use Rattle.core_laws.proofs.ServesFound.{serves_found}
use Rattle.core_laws.proofs.TakesFound.{takes_found}
use Rattle.core_laws.proofs.Stands.{Ghost, Stands, tile_at, no_tile, flight_of}

-- what a flit sent tells of the issue
pub issue_told : (t : ℕ) (to_put : List ℕ) (next : Option (ℕ × Operation)) (m : Move) → issue_of t to_put next ≡ Some m
    → (f : ℕ × Operation) × (next ≡ Some f) × (Sends t f.0 f.1 ≡ m)
issue_told t [] next m h = option_map_some (λ (f : ℕ × Operation). Sends t f.0 f.1) next m h
issue_told t (flit ∷ flits) next m h = absurd (cc)

-- what a flit taken tells of the answer
pub answer_told : (o : Offered) (m : Move) → answer_by o ≡ Some m → (r : Telling) × (o ≡ Complete (packet.Response r)) × (Takes r ≡ m)
answer_told More m h = absurd (cc)
answer_told (Complete (packet.Request r)) m h = absurd (cc)
answer_told (Complete (packet.Response r)) m h = (r, refl, same_Some _ _ h)
answer_told (Refused k) m h = absurd (cc)

pub first_there : (xs : List ℕ) (x : ℕ) → first_of xs ≡ Some x → xs ≡ x ∷ rest xs
first_there [] x h = cc
first_there (y ∷ xs) x h = ap (λ z. z ∷ xs) (same_Some y x h)

module _ (d : Design) (net : IsNet (net_of d)) (tags : ℕ) (opening : List ℕ) (s : State) (g : Ghost) (order : List LinearizationPoint)
    (st : Stands d tags opening s g order)
    (addressed : (t : ℕ) (o : Operation) → t < tiles_of d.shape → next_operation_of (tile_at s t).processor.operations.following ≡ Some o
    → o.address < length opening) where
  abbrev AreFound : ℕ → Move → Type 0
  AreFound t m = IsFound (length opening) (flight_of d.words s g) m × IsHere (tiles_of d.shape) d.words t m

  found_processor : (t : ℕ) → t < tiles_of d.shape → (choice : Choice) (learned : ℕ) (m : Move)
      → learned_by (processor_wants (tiles_of d.shape) d.words t) (processor_wiring d.shape t) (tile_at s t).processor s.around choice ≡ Some learned
      → processor_move t (tile_at s t).processor choice learned ≡ Some m → AreFound t m
  found_processor t t_in Send learned m h e =
      let f = issue_told t (tile_at s t).processor.to_put (ready (tile_at s t).processor.operations) m e in
      let parts = ready_parts (tile_at s t).processor.operations f.0.0 f.0.1 f.1 in
      let tile_in : t < length s.tiles = subst (λ (n : ℕ). t < n) (sym st.tiles) t_in in
      let operations : slice_index_or (map record_in s.tiles) t no_processor ≡ (tile_at s t).processor.operations =
      get_or-map record_in s.tiles t no_tile no_processor tile_in in
      subst (AreFound t) f.2 (
        (
          subst (λ (n : ℕ). t < n) (sym (length-map s.tiles record_in)) tile_in,
          ap (λ (b : ProcessorRecord). next_operation_of b.following) operations ∙ parts.0,
          ap (λ (b : ProcessorRecord). slice_get b.tags f.0.0) operations ∙ parts.1,
          addressed t f.0.1 t_in parts.0,
        ),
        tt,
      )
  found_processor t t_in Take learned m h e =
      let flits : List ℕ = (ring s.around.rings (ejection_channel d.shape t Reply)).channel.flits in
      let first : flits ≡ learned ∷ rest flits = first_there flits learned h in
      let a = answer_told (offered (tile_at s t).processor.so_far learned) m e in
      let found = takes_found d net tags opening s g order st t t_in learned (rest flits) first a.0 a.1 in
      subst (AreFound t) a.2 found
  found_processor t t_in Credit learned m h e = absurd (cc)
  found_processor t t_in Done learned m h e = absurd (cc)
  found_processor t t_in Look learned m h e = absurd (cc)
  found_processor t t_in (TakeFrom i) learned m h e = absurd (cc)
  found_processor t t_in (Put i) learned m h e = absurd (cc)
  found_processor t t_in (CreditOf i) learned m h e = absurd (cc)
  found_processor t t_in Serve learned m h e = absurd (cc)

  found_bank : (t : ℕ) → (choice : Choice) (learned : ℕ) (m : Move) → bank_move (tile_at s t).bank choice learned ≡ Some m → AreFound t m
  found_bank t Serve learned m e =
      let f = option_map_some (λ (r : Asking). Serves r) (tile_at s t).bank.waiting m e in
      subst (AreFound t) f.2 (serves_found d net tags opening s g order st t f.0 f.1)
  found_bank t Send learned m e = absurd (cc)
  found_bank t Take learned m e = absurd (cc)
  found_bank t Credit learned m e = absurd (cc)
  found_bank t Done learned m e = absurd (cc)
  found_bank t Look learned m e = absurd (cc)
  found_bank t (TakeFrom i) learned m e = absurd (cc)
  found_bank t (Put i) learned m e = absurd (cc)
  found_bank t (CreditOf i) learned m e = absurd (cc)

  found_tile : (t : ℕ) → t < tiles_of d.shape → (agent : Agent) (choice : Choice) (m : Move) → tile_move d t (tile_at s t) s.around agent choice ≡ Some m
      → AreFound t m
  found_tile t t_in Processor choice m h =
      option_and_then_some (processor_move t (tile_at s t).processor choice) _ m h (λ learned is e. found_processor t t_in choice learned m is e)
  found_tile t t_in Router choice m h = absurd (cc)
  found_tile t t_in Bank choice m h = option_and_then_some (bank_move (tile_at s t).bank choice) _ m h (λ learned is e. found_bank t choice learned m e)

  -- the move of a step is found
  pub found : (attempt : Step) (m : Move) → move_of d s attempt ≡ Some m → AreFound (agent_tile attempt.agent) m
  found attempt m h =
      let t : ℕ = agent_tile attempt.agent in
      option_and_then_some (λ tile. tile_move d t tile s.around (agent_kind attempt.agent) attempt.choice) (slice_get s.tiles t) m h (λ tile there e.
      let is : tile_at s t ≡ tile = get_or_from_slice_get s.tiles t tile no_tile there in
      let within : t < tiles_of d.shape = subst (λ (n : ℕ). t < n) st.tiles (slice_get_within s.tiles t tile there) in
      found_tile t within (agent_kind attempt.agent) attempt.choice m
      (ap (λ (x : TileState). tile_move d t x s.around (agent_kind attempt.agent) attempt.choice) is ∙ e))

  -- the event of a step
  abbrev pub event_here : Step → Event
  event_here attempt = flight_event (flight_of d.words s g) (move_of d s attempt)

  -- the flight after a step
  abbrev pub flight_then : Step → Flight
  flight_then attempt = moved_by (tiles_of d.shape) (flight_of d.words s g) (move_of d s attempt)

  -- a step's change of what is shown is its event's, the event may happen, and what holds of the records and of the packets in flight holds after it
  pub record IsEvent (attempt : Step) (n : ℕ) : Type 0 where
    pub shown : show d.words (next d s attempt) ≡ happens (tiles_of d.shape) (show d.words s) (event_here attempt)
    pub may : MayHappen (tiles_of d.shape) tags opening (show d.words s) order (event_here attempt)
    pub flight : Whole (tiles_of d.shape) tags opening (flight_with d.words (next d s attempt) (flight_then attempt).asked (flight_then attempt).told)
        (order ++ points_of (event_here attempt) n)

  pub is_event : (attempt : Step) (n : ℕ) → IsEvent attempt n
  is_event attempt n =
      let f = any_steps (tiles_of d.shape) tags opening (flight_of d.words s g) order n (move_of d s attempt) st.flight (λ m h. (found attempt m h).0) in
      let same = flight_step d s g.asked g.told attempt (λ m h. (found attempt m h).1) in
      record {
        shown = ap (λ (x : Flight). flight.show x) same ∙ f.shown;
        may = f.may;
        flight = subst (λ (x : Flight). Whole (tiles_of d.shape) tags opening x (order ++ points_of (event_here attempt) n)) (sym same) f.whole;
      }
