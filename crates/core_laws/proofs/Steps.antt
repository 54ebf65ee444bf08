-- Where an agent's choice is wanted and granted, the machine's step is enabled.
use Rattle.std.proofs.Common.{◌≡◌, ℕ, ◌<◌, length, Option, Some, ◌∙◌, ap, arith, slice_get, slice_set}
use Rattle.std.specs.Prelude.{option_and_then, option_map}
use Rattle.std.proofs.lemmas.Option.{slice_get-get_or}
use Rattle.torus.specs.Shape.{tiles_of}
use Rattle.torus.specs.declared.step.Step.{Step}
use Rattle.torus.specs.declared.step.Choice.{Choice}
use Rattle.flit_buffer.specs.declared.want.Want.{Want}
use Rattle.flit_buffer.specs.Surroundings.{Surroundings, Wiring, granted, surroundings_after, agent_step, step_with}
use Rattle.router.specs.Table.{router_wants, router_after}
use Rattle.one_order.specs.ProcessorTable.{processor_wants, processor_after}
use Rattle.home_bank.specs.BankTable.{bank_wants, bank_after}
use Rattle.core_laws.specs.Wiring.{processor_wiring, bank_wiring}
use Rattle.router.specs.Beginning.{router_wiring}
use Rattle.core_laws.specs.Agent.{Agent}
use Rattle.core_laws.specs.Agent.TheVariants.{Processor, Router, Bank}
use Rattle.core_laws.specs.Tile.{Design, TileState, tile_step}
use Rattle.core_laws.specs.Agents.{agent_number, agent_tile, agent_kind}
use Rattle.core_laws.proofs.AgentNumbers.{tile_of_number, kind_of_number}
use Rattle.wormhole.specs.Net.{IsOn}
use Rattle.core_laws.specs.Core.{State, step, round}
use Rattle.core_laws.proofs.Stands.{no_tile, tile_at}
use Rattle.core_laws.proofs.Attempts.{processor_choices, router_choices, bank_choices, processor_on, router_on, bank_on}

-- there is a value
abbrev pub IsThere : {A : Type 0} → Option A → Type 0
IsThere {A} o = (x : A) × (o ≡ Some x)

pub map_there : {A B : Type 0} (f : A → B) (o : Option A) → IsThere o → IsThere (option_map f o)
map_there f o at = (f at.0, ap (option_map f) at.1)

-- an agent makes a choice that it wants and is granted
pub agent_there : {S : Type 0} (wants : S → Choice → Option Want) (after : S → Choice → Want → ℕ → S) (depth : ℕ) (wiring : Wiring) (state : S)
    (around : Surroundings) (choice : Choice) (want : Want) (learned : ℕ)
    → wants state choice ≡ Some want → granted around wiring want ≡ Some learned → IsThere (agent_step wants after depth wiring state around choice)
agent_there wants after depth wiring state around choice want learned wanted grants = (
  (after state choice want learned, surroundings_after depth around wiring want),
  ap (λ o. option_and_then (λ w. step_with wants after depth wiring state around choice w (granted around wiring w)) o) wanted
      ∙ ap (λ g. step_with wants after depth wiring state around choice want g) grants,
)

-- Go follows from each step that is enabled.
module _ (d : Design) (s : State) (Go : Type 0) (filled : length s.tiles ≡ tiles_of d.shape)
    (go : (a : Step) → IsOn a (round d.shape) → IsThere (step d s a) → Go) where
  abbrev stepped : Choice → ℕ → Agent → Option State
  stepped choice t a = option_and_then
      (λ tile. option_map (λ p. record { tiles = slice_set s.tiles t p.0; around = p.1 }) (tile_step d t tile s.around a choice))
      (slice_get s.tiles t)

  -- the step of an agent of tile t
  tile_goes : (t : ℕ) (a : Agent) (choice : Choice) → t < tiles_of d.shape
      → IsOn (record { agent = agent_number t a; choice = choice }) (round d.shape)
      → IsThere (tile_step d t (tile_at s t) s.around a choice) → Go
  tile_goes t a choice within on at =
      let tile : slice_get s.tiles t ≡ Some (tile_at s t) = slice_get-get_or s.tiles t no_tile (omega arith) in
      let moved : IsThere (option_map (λ (p : TileState × Surroundings). record { tiles = slice_set s.tiles t p.0; around = p.1 })
      (tile_step d t (tile_at s t) s.around a choice)) =
      map_there (λ (p : TileState × Surroundings). record { tiles = slice_set s.tiles t p.0; around = p.1 })
      (tile_step d t (tile_at s t) s.around a choice) at in
      let named : stepped choice (agent_tile (agent_number t a)) (agent_kind (agent_number t a)) ≡ stepped choice t a =
      ap (λ q. stepped choice q (agent_kind (agent_number t a))) (tile_of_number t a) ∙ ap (stepped choice t) (kind_of_number t a) in
      go (record { agent = agent_number t a; choice = choice }) on (
        moved.0,
        named
            ∙ ap (λ o. option_and_then
            (λ tile. option_map (λ (p : TileState × Surroundings). record { tiles = slice_set s.tiles t p.0; around = p.1 })
            (tile_step d t tile s.around a choice)) o) tile
            ∙ moved.1,
      )

  pub processor_goes : (t : ℕ) (choice : Choice) (want : Want) (learned : ℕ) → (here : t < tiles_of d.shape) → IsOn choice (processor_choices d.shape t here)
      → processor_wants (tiles_of d.shape) d.words t (tile_at s t).processor choice ≡ Some want
      → granted s.around (processor_wiring d.shape t) want ≡ Some learned → Go
  processor_goes t choice want learned within on wanted grants = tile_goes t Processor choice within (processor_on d.shape t within choice on)
      (map_there _ _ (agent_there (processor_wants (tiles_of d.shape) d.words t) (processor_after (tiles_of d.shape) d.words t) d.depth
      (processor_wiring d.shape t) (tile_at s t).processor s.around choice want learned wanted grants))

  pub router_goes : (t : ℕ) (choice : Choice) (want : Want) (learned : ℕ) → (here : t < tiles_of d.shape) → IsOn choice (router_choices d.shape t here)
      → router_wants d.shape t (tile_at s t).router choice ≡ Some want
      → granted s.around (router_wiring d.shape t) want ≡ Some learned → Go
  router_goes t choice want learned within on wanted grants = tile_goes t Router choice within (router_on d.shape t within choice on)
      (map_there _ _ (agent_there (router_wants d.shape t) router_after d.depth (router_wiring d.shape t) (tile_at s t).router s.around choice want learned
      wanted grants))

  pub bank_goes : (t : ℕ) (choice : Choice) (want : Want) (learned : ℕ) → (here : t < tiles_of d.shape) → IsOn choice (bank_choices d.shape t here)
      → bank_wants (tiles_of d.shape) t (tile_at s t).bank choice ≡ Some want
      → granted s.around (bank_wiring d.shape t) want ≡ Some learned → Go
  bank_goes t choice want learned within on wanted grants = tile_goes t Bank choice within (bank_on d.shape t within choice on)
      (map_there _ _ (agent_there (bank_wants (tiles_of d.shape) t) (bank_after (tiles_of d.shape) t) d.depth (bank_wiring d.shape t) (tile_at s t).bank
      s.around choice want learned wanted grants))
