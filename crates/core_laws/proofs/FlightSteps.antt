-- A step of the core is, of the machine without its network, the step's move.
use Rattle.std.proofs.Common.{◌≡◌, ℕ, List, [], ◌∷◌, ◌++◌, map, Option, Some, None, refl, sym, ◌∙◌, ap, subst, slice_get, slice_index, slice_set}
use Rattle.std.proofs.Common.{set, get_or}
use Rattle.std.specs.Prelude.{option_and_then, option_map}
use Rattle.std.proofs.lemmas.Option.{slice_get_within, get_or_from_slice_get}
use Rattle.std.proofs.lemmas.List.{map-set, set-get_or, get_or-map}
use Rattle.torus.specs.Shape.{tiles_of}
use Rattle.torus.specs.declared.step.Choice.{Choice}
use Rattle.torus.specs.declared.step.Step.{Step}
use Rattle.packet.specs.declared.kinds.Request.{Request}
use Rattle.packet.specs.declared.kinds.Response.{Response}
use Rattle.packet.specs.Memory.{new_word, reply_to}
use Rattle.home_bank.specs.declared.entry.Entry.{Entry}
use Rattle.home_bank.specs.ServiceList.{address_of, entry_of}
use Rattle.one_order.specs.Events.{push_at}
use Rattle.flit_buffer.specs.Surroundings.{Surroundings}
use Rattle.one_order.specs.ProcessorRecord.{ProcessorRecord, no_processor, issued_by, answered_by}
use Rattle.one_order.specs.Flight as flight
use Rattle.one_order.specs.Flight.{Flight, Move, Sends, Serves, Takes, moved, moved_by, processor_at}
use Rattle.one_order.specs.ProcessorTable.{ProcessorState, processor_wants, processor_after}
use Rattle.home_bank.specs.BankTable.{BankState, bank_wants, bank_after}
use Rattle.tile.specs.Wiring.{processor_wiring, bank_wiring}
use Rattle.tile.specs.declared.agent.Agent.{Agent}
use Rattle.tile.specs.declared.agent.Agent.TheVariants.{Processor, Router, Bank}
use Rattle.tile.specs.Tile.{Design, TileState, tile_step}
use Rattle.tile.specs.Agents.{agent_kind, agent_tile}
use Rattle.core_laws.specs.Core.{State, next, or_same, records_of, show}
use Rattle.core_laws.specs.Moves.{tile_move, move_of, processor_move, bank_move}
use Rattle.core_laws.proofs.AgentSteps.{refused, option_map_none}
use Rattle.core_laws.proofs.TileMoves.{IsHere, TileMoved, tile_moves}

abbrev pub record_in : TileState → ProcessorRecord
record_in t = t.processor.operations

abbrev pub entries_in : TileState → List Entry
entries_in t = t.bank.entries

-- the machine without its network, with these packets in flight
abbrev pub flight_with : ℕ → State → List Request → List Response → Flight
flight_with words s asked told =
    record { processors = records_of s; entries = (show words s).entries; memory = (show words s).memory; asked = asked; told = told }

pub same_flight : (b c : List ProcessorRecord) (d e : List (List Entry)) (m n : List ℕ) (asked : List Request) (told : List Response) → b ≡ c → d ≡ e → m ≡ n
    → ◌≡◌ {A = Flight} (record { processors = b; entries = d; memory = m; asked = asked; told = told })
    (record { processors = c; entries = e; memory = n; asked = asked; told = told })
same_flight b c d e m n asked told hb hd hm =
    ap (λ x. record { processors = x; entries = d; memory = m; asked = asked; told = told }) hb
    ∙ (ap (λ x. record { processors = c; entries = x; memory = m; asked = asked; told = told }) hd
    ∙ ap (λ x. record { processors = c; entries = e; memory = x; asked = asked; told = told }) hm)

-- a part of a tile that stays
pub part_stays : {A : Type 0} (f : TileState → A) (d : A) (xs : List TileState) (t : ℕ) (x y : TileState) → slice_get xs t ≡ Some x → f y ≡ f x
    → map f (slice_set xs t y) ≡ map f xs
part_stays f d xs t x y there same =
    map-set f xs t y ∙ (ap (λ z. set (map f xs) t z)
    (same ∙ (ap f (sym (get_or_from_slice_get xs t x x there)) ∙ sym (get_or-map f xs t x d (slice_get_within xs t x there))))
    ∙ set-get_or (map f xs) t d)

pub part_at : {A : Type 0} (f : TileState → A) (d : A) (xs : List TileState) (t : ℕ) (x : TileState) → slice_get xs t ≡ Some x → get_or (map f xs) t d ≡ f x
part_at f d xs t x there = get_or-map f xs t x d (slice_get_within xs t x there) ∙ ap f (get_or_from_slice_get xs t x x there)

module _ (d : Design) (s : State) (asked : List Request) (told : List Response) where
  abbrev pub tiles : ℕ
  tiles = tiles_of d.shape

  abbrev pub before : Flight
  before = flight_with d.words s asked told

  -- the tile and the surroundings of a moved tile are those of the moved flight
  pub moved_flight : (t : ℕ) (tile after : TileState) (left : Surroundings) (m : Option Move) → slice_get s.tiles t ≡ Some tile
      → TileMoved tiles d.words t tile s.around after left m → ((k : Move) → m ≡ Some k → IsHere tiles d.words t k)
      → flight_with d.words (record { tiles = slice_set s.tiles t after; around = left }) (moved_by tiles before m).asked (moved_by tiles before m).told
      ≡ moved_by tiles before m
  moved_flight t tile after left None there h here = same_flight _ _ _ _ _ _ asked told
      (part_stays record_in no_processor s.tiles t tile after there h.operations) (part_stays entries_in [] s.tiles t tile after there h.entries) h.memory
  moved_flight t tile after left (Some (Sends p tag o)) there h here =
      let F : ℕ → Flight = λ k. record {
        processors = slice_set before.processors k (issued_by (processor_at before k) tag o);
        entries = before.entries;
        memory = before.memory;
        asked = (moved tiles before (Sends p tag o)).asked;
        told = told;
      } in
      same_flight _ _ _ _ _ _ _ told
      (map-set record_in s.tiles t after
      ∙ ap (λ (b : ProcessorRecord). slice_set before.processors t b)
      (h.operations.1 ∙ ap (λ (b : ProcessorRecord). issued_by b tag o) (sym (part_at record_in no_processor s.tiles t tile there))))
      (part_stays entries_in [] s.tiles t tile after there h.entries) h.memory
      ∙ ap F (sym h.operations.0)
  moved_flight t tile after left (Some (Serves r)) there h here =
      let F : ℕ → Flight = λ k. record {
        processors = before.processors;
        entries = push_at before.entries k (entry_of k tiles r (reply_to r.op (slice_index before.memory (address_of k tiles r.word))));
        memory = slice_set before.memory (address_of k tiles r.word) (new_word r.op (slice_index before.memory (address_of k tiles r.word)));
        asked = (moved tiles before (Serves r)).asked;
        told = (moved tiles before (Serves r)).told;
      } in
      same_flight _ _ _ _ _ _ _ _
      (part_stays record_in no_processor s.tiles t tile after there h.operations)
      (map-set entries_in s.tiles t after
      ∙ ap (λ (es : List Entry). slice_set before.entries t es)
      (h.entries ∙ ap (λ (es : List Entry). es ++ entry_of t tiles r (reply_to r.op (slice_index before.memory (address_of t tiles r.word))) ∷ [])
      (sym (part_at entries_in [] s.tiles t tile there))))
      h.memory
      ∙ ap F (sym (here (Serves r) refl).0)
  moved_flight t tile after left (Some (Takes r)) there h here =
      let F : ℕ → Flight = λ k.
      record {
        processors = slice_set before.processors k (answered_by (processor_at before k) r);
        entries = before.entries;
        memory = before.memory;
        asked = asked;
        told = (moved tiles before (Takes r)).told;
      } in
      same_flight _ _ _ _ _ _ asked _
      (map-set record_in s.tiles t after
      ∙ ap (λ (b : ProcessorRecord). slice_set before.processors t b)
      (h.operations ∙ ap (λ (b : ProcessorRecord). answered_by b r) (sym (part_at record_in no_processor s.tiles t tile there))))
      (part_stays entries_in [] s.tiles t tile after there h.entries) h.memory
      ∙ ap F (sym (here (Takes r) refl))

  pub refused_tile : (t : ℕ) (tile : TileState) (agent : Agent) (choice : Choice) → tile_step d t tile s.around agent choice ≡ None
      → tile_move d t tile s.around agent choice ≡ None
  refused_tile t tile Processor choice h = ap (option_and_then (processor_move t tile.processor choice))
      (refused (processor_wants tiles d.words t) (processor_after tiles d.words t) d.depth (processor_wiring d.shape t) tile.processor s.around choice
      (option_map_none (λ (p : ProcessorState × Surroundings). (record tile { processor = p.0 }, p.1)) _ h))
  refused_tile t tile Router choice h = refl
  refused_tile t tile Bank choice h = ap (option_and_then (bank_move tile.bank choice))
      (refused (bank_wants tiles t) (bank_after tiles t) d.depth (bank_wiring d.shape t) tile.bank s.around choice
      (option_map_none (λ (p : BankState × Surroundings). (record tile { bank = p.0 }, p.1)) _ h))

  -- the flight after an attempt of tile t's agent
  abbrev after_tile : ℕ → Option (TileState × Surroundings) → State
  after_tile t p = or_same s (option_map (λ p. record { tiles = slice_set s.tiles t p.0; around = p.1 }) p)

  tile_flight : (t : ℕ) (tile : TileState) (agent : Agent) (choice : Choice) (p : Option (TileState × Surroundings)) (m : Option Move)
      → slice_get s.tiles t ≡ Some tile
      → tile_step d t tile s.around agent choice ≡ p → tile_move d t tile s.around agent choice ≡ m → ((k : Move) → m ≡ Some k → IsHere tiles d.words t k)
      → flight_with d.words (after_tile t p) (moved_by tiles before m).asked (moved_by tiles before m).told ≡ moved_by tiles before m
  tile_flight t tile agent choice None m there is move here =
      subst (λ (k : Option Move). flight_with d.words s (moved_by tiles before k).asked (moved_by tiles before k).told ≡ moved_by tiles before k)
      (sym (refused_tile t tile agent choice is) ∙ move) refl
  tile_flight t tile agent choice (Some p) m there is move here =
      moved_flight t tile p.0 p.1 m there
      (subst (λ (k : Option Move). TileMoved tiles d.words t tile s.around p.0 p.1 k) move
      (tile_moves d t tile s.around agent choice p.0 p.1 is (λ k e. here k (sym move ∙ e)))) here

  found_flight : (t : ℕ) (agent : Agent) (choice : Choice) (tile : Option TileState) → slice_get s.tiles t ≡ tile
      → let m = option_and_then (λ tile. tile_move d t tile s.around agent choice) tile in ((k : Move) → m ≡ Some k → IsHere tiles d.words t k)
      → flight_with d.words (or_same s
      (option_and_then (λ tile. option_map (λ p. record { tiles = slice_set s.tiles t p.0; around = p.1 }) (tile_step d t tile s.around agent choice))
      tile))
      (moved_by tiles before m).asked (moved_by tiles before m).told ≡ moved_by tiles before m
  found_flight t agent choice None there here = refl
  found_flight t agent choice (Some tile) there here =
      tile_flight t tile agent choice (tile_step d t tile s.around agent choice) (tile_move d t tile s.around agent choice) there refl refl here

  -- What a step does to the machine without its network is what its move says.
  pub flight_step : (attempt : Step) → ((k : Move) → move_of d s attempt ≡ Some k → IsHere tiles d.words (agent_tile attempt.agent) k)
      → flight_with d.words (next d s attempt) (moved_by tiles before (move_of d s attempt)).asked (moved_by tiles before (move_of d s attempt)).told
      ≡ moved_by tiles before (move_of d s attempt)
  flight_step attempt here =
      found_flight (agent_tile attempt.agent) (agent_kind attempt.agent) attempt.choice (slice_get s.tiles (agent_tile attempt.agent)) refl here

  -- and so what is shown
  pub show_step : (attempt : Step) → ((k : Move) → move_of d s attempt ≡ Some k → IsHere tiles d.words (agent_tile attempt.agent) k)
      → show d.words (next d s attempt) ≡ flight.show (moved_by tiles before (move_of d s attempt))
  show_step attempt here = ap (λ (f : Flight). flight.show f) (flight_step attempt here)
