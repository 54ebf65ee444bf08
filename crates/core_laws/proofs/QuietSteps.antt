-- From the steps of agents that are no issue, service or answer to those of the machine.
use Rattle.std.proofs.Common.{◌≡◌, ℕ, ◌<◌, Bool, true, false, List, Option, Some, None, refl, sym, ◌∙◌, ap, subst, slice_get, slice_set}
use Rattle.std.proofs.Common.{if◌then◌else◌, is_none}
use Rattle.std.specs.Prelude.{option_and_then, option_map, ◌&&◌, not, IfSome}
use Rattle.std.proofs.lemmas.Option.{slice_get_within, get_or_from_slice_get}
use Rattle.torus.specs.Shape.{tiles_of}
use Rattle.torus.specs.declared.step.Choice.{Choice}
use Rattle.torus.specs.declared.step.Step.{Step}
use Rattle.one_order.specs.Order.{LinearizationPoint}
use Rattle.flit_buffer.specs.declared.want.Want.{Want}
use Rattle.flit_buffer.specs.Surroundings.{Surroundings, Wiring, granted, surroundings_after, agent_step, step_with}
use Rattle.one_order.specs.Flight.{Move}
use Rattle.tile.specs.declared.agent.Agent.{Agent}
use Rattle.tile.specs.Tile.{Design, TileState, tile_step}
use Rattle.tile.specs.Agents.{agent_kind, agent_tile}
use Rattle.core_laws.specs.Core.{State, next, or_same}
use Rattle.core_laws.specs.Moves.{learned_by, tile_move, move_of}
use Rattle.wormhole.specs.Events.{NetEvent, CanHappen, network_after}
use Rattle.core_laws.specs.Network.{net_of, tile_event, network_event}
use Rattle.core_laws.proofs.Stands.{Ghost, Stands, tile_at, no_tile}

-- what is so where something is wanted
pub if_true : {A : Type 0} (b : Bool) (x y : A) → (if b then Some x else None) ≡ Some y → b ≡ true
if_true true x y h = refl
if_true false x y h = cc

pub both_true : (a b : Bool) → a && b ≡ true → (a ≡ true) × (b ≡ true)
both_true true b h = (refl, h)
both_true false b h = absurd (cc)

pub not_true : (b : Bool) → not b ≡ true → b ≡ false
not_true true h = cc
not_true false h = refl

pub none_there : {A : Type 0} (o : Option A) → is_none o ≡ true → o ≡ None
none_there None h = refl
none_there (Some x) h = absurd (cc)

-- What holds after a step of an agent that isn't enabled, and after each that is no move, holds after every one that is no move.
module _ {S : Type 0} (wants : S → Choice → Option Want) (after : S → Choice → Want → ℕ → S) (depth : ℕ) (wiring : Wiring) (state : S) (around : Surroundings)
    (choice : Choice) (move : ℕ → Option Move)
    (event : ℕ → Option NetEvent) (P : Option (S × Surroundings) → Option NetEvent → Type 0) (same : P None None)
    (does : (w : Want) (learned : ℕ) → wants state choice ≡ Some w → granted around wiring w ≡ Some learned → move learned ≡ None
    → P (Some (after state choice w learned, surroundings_after depth around wiring w)) (event learned)) where
  by_learned : (w : Want) → wants state choice ≡ Some w → (o : Option ℕ) → granted around wiring w ≡ o → option_and_then move o ≡ None
      → P (step_with wants after depth wiring state around choice w o) (option_and_then event o)
  by_learned w is None grants h = same
  by_learned w is (Some learned) grants h = does w learned is grants h

  by_want : (o : Option Want) → wants state choice ≡ o → option_and_then move (option_and_then (granted around wiring) o) ≡ None
      → P (option_and_then (λ want. step_with wants after depth wiring state around choice want (granted around wiring want)) o)
      (option_and_then event (option_and_then (granted around wiring) o))
  by_want None is h = same
  by_want (Some w) is h = by_learned w is (granted around wiring w) refl h

  pub agent_stays : option_and_then move (learned_by wants wiring state around choice) ≡ None
      → P (agent_step wants after depth wiring state around choice) (option_and_then event (learned_by wants wiring state around choice))
  agent_stays h = by_want (wants state choice) refl h

-- a state stands after an event of the network that may happen, or none: beside it the network after the event is noted
pub record Stays (d : Design) (tags : ℕ) (opening : List ℕ) (g : Ghost) (order : List LinearizationPoint) (after : State) (e : Option NetEvent) : Type 0 where
  pub stands : Stands d tags opening after (record g { net = network_after (net_of d) g.net e }) order
  pub may : IfSome e (CanHappen (net_of d) g.net.lines)

-- the machine after a step of a tile
abbrev pub with_tile : State → ℕ → Option (TileState × Surroundings) → State
with_tile s t p = or_same s (option_map (λ p. record { tiles = slice_set s.tiles t p.0; around = p.1 }) p)

-- What holds after each quiet choice of an agent holds after each quiet attempt.
module _ (d : Design) (tags : ℕ) (opening : List ℕ) (s : State) (g : Ghost) (order : List LinearizationPoint) (st : Stands d tags opening s g order)
    (agent : Agent)
    (does : (t : ℕ) → t < tiles_of d.shape → (choice : Choice) → tile_move d t (tile_at s t) s.around agent choice ≡ None
    → Stays d tags opening g order (with_tile s t (tile_step d t (tile_at s t) s.around agent choice))
    (tile_event d t (tile_at s t) s.around agent choice)) where
  abbrev move_by : Agent → ℕ → Choice → Option TileState → Option Move
  move_by a t choice o = option_and_then (λ tile. tile_move d t tile s.around a choice) o

  abbrev next_by : Agent → ℕ → Choice → Option TileState → State
  next_by a t choice o = or_same s
      (option_and_then (λ tile. option_map (λ p. record { tiles = slice_set s.tiles t p.0; around = p.1 }) (tile_step d t tile s.around a choice)) o)

  abbrev event_by : Agent → ℕ → Choice → Option TileState → Option NetEvent
  event_by a t choice o = option_and_then (λ tile. tile_event d t tile s.around a choice) o

  at_tile : (t : ℕ) (choice : Choice) (o : Option TileState) → slice_get s.tiles t ≡ o → move_by agent t choice o ≡ None
      → Stays d tags opening g order (next_by agent t choice o) (event_by agent t choice o)
  at_tile t choice None there h = record { stands = st; may = tt }
  at_tile t choice (Some tile) there h =
      let is : tile_at s t ≡ tile = get_or_from_slice_get s.tiles t tile no_tile there in
      let within : t < tiles_of d.shape = subst (λ (k : ℕ). t < k) st.tiles (slice_get_within s.tiles t tile there) in
      subst (λ (x : TileState). Stays d tags opening g order (with_tile s t (tile_step d t x s.around agent choice)) (tile_event d t x s.around agent choice))
      is
      (does t within choice (ap (λ (x : TileState). tile_move d t x s.around agent choice) is ∙ h))

  pub attempt_stays : (attempt : Step) → agent_kind attempt.agent ≡ agent → move_of d s attempt ≡ None
      → Stays d tags opening g order (next d s attempt) (network_event d s attempt)
  attempt_stays attempt is h =
      let t : ℕ = agent_tile attempt.agent in
      subst (λ (a : Agent). Stays d tags opening g order (next_by a t attempt.choice (slice_get s.tiles t)) (event_by a t attempt.choice (slice_get s.tiles t)))
      (sym is)
      (at_tile t attempt.choice (slice_get s.tiles t) refl (ap (λ (a : Agent). move_by a t attempt.choice (slice_get s.tiles t)) (sym is) ∙ h))
