-- A choice looks at its agent and at what it wants of the surroundings, and changes no other tile.
use Rattle.std.proofs.Common.{◌≡◌, ℕ, Option, Some, None, refl, sym, ◌∙◌, ap}
use Rattle.std.specs.Prelude.{option_map}
use Rattle.torus.specs.Shape.{tiles_of}
use Rattle.torus.specs.declared.step.Choice.{Choice}
use Rattle.flit_buffer.specs.declared.want.Want.{Want}
use Rattle.flit_buffer.specs.Surroundings.{Surroundings, Wiring, agent_step}
use Rattle.flit_buffer.specs.OwnPart.{SameWhereWanted}
use Rattle.flit_buffer.proofs.OwnParts.{same_steps}
use Rattle.router.specs.Table.{RouterState, router_wants, router_after}
use Rattle.router.specs.Beginning.{router_wiring}
use Rattle.one_order.specs.ProcessorTable.{ProcessorState, processor_wants, processor_after}
use Rattle.home_bank.specs.BankTable.{BankState, bank_wants, bank_after}
use Rattle.tile.specs.Wiring.{processor_wiring, bank_wiring}
use Rattle.tile.specs.declared.agent.Agent.TheVariants.{Processor, Router, Bank}
use Rattle.tile.specs.Tile.{Design, TileState, tile_step}

map_twice : {A B C : Type 0} (f : B → C) (g : A → B) (h : A → C) → ((x : A) → f (g x) ≡ h x) → (o : Option A) → option_map f (option_map g o) ≡ option_map h o
map_twice f g h same None = refl
map_twice f g h same (Some x) = ap Some (same x)

-- an agent's step in its tile, as it changes the agent, is the agent's own step
module _ {S : Type 0} (wants : S → Choice → Option Want) (after : S → Choice → Want → ℕ → S) (depth : ℕ) (wiring : Wiring) (part : TileState → S)
    (set : TileState → S → TileState) (is_set : (t : TileState) (x : S) → part (set t x) ≡ x) where
  abbrev in_tile : TileState → Surroundings → Choice → Option (TileState × Surroundings)
  in_tile tile around c = option_map (λ (p : S × Surroundings). (set tile p.0, p.1)) (agent_step wants after depth wiring (part tile) around c)

  abbrev own : TileState → Surroundings → Choice → Option S
  own tile around c = option_map (λ (p : TileState × Surroundings). part p.0) (in_tile tile around c)

  is_own : (tile : TileState) (around : Surroundings) (c : Choice)
      → own tile around c ≡ option_map (λ (p : S × Surroundings). p.0) (agent_step wants after depth wiring (part tile) around c)
  is_own tile around c = map_twice _ _ _ (λ p. is_set tile p.0) (agent_step wants after depth wiring (part tile) around c)

  own_alike : (v w : TileState) (a b : Surroundings) (c : Choice) → part v ≡ part w
      → ((want : Want) → wants (part v) c ≡ Some want → SameWhereWanted a b wiring want) → own v a c ≡ own w b c
  own_alike v w a b c same alike =
      is_own v a c ∙ (same_steps a b wiring wants after depth (part v) c alike
      ∙ (ap (λ (x : S). option_map (λ (p : S × Surroundings). p.0) (agent_step wants after depth wiring x b c)) same ∙ sym (is_own w b c)))

pub processors_alike : (d : Design) (t : ℕ) (v w : TileState) (a b : Surroundings) (c : Choice) → v.processor ≡ w.processor
    → ((want : Want) → processor_wants (tiles_of d.shape) d.words t v.processor c ≡ Some want → SameWhereWanted a b (processor_wiring d.shape t) want)
    → option_map (λ (p : TileState × Surroundings). p.0.processor) (tile_step d t v a Processor c)
    ≡ option_map (λ (p : TileState × Surroundings). p.0.processor) (tile_step d t w b Processor c)
processors_alike d t v w a b c same alike =
    own_alike (processor_wants (tiles_of d.shape) d.words t) (processor_after (tiles_of d.shape) d.words t) d.depth (processor_wiring d.shape t)
    (λ (x : TileState). x.processor) (λ (x : TileState) (y : ProcessorState). record x { processor = y }) (λ x y. refl) v w a b c same alike

pub routers_alike : (d : Design) (t : ℕ) (v w : TileState) (a b : Surroundings) (c : Choice) → v.router ≡ w.router
    → ((want : Want) → router_wants d.shape t v.router c ≡ Some want → SameWhereWanted a b (router_wiring d.shape t) want)
    → option_map (λ (p : TileState × Surroundings). p.0.router) (tile_step d t v a Router c)
    ≡ option_map (λ (p : TileState × Surroundings). p.0.router) (tile_step d t w b Router c)
routers_alike d t v w a b c same alike =
    own_alike (router_wants d.shape t) router_after d.depth (router_wiring d.shape t)
    (λ (x : TileState). x.router) (λ (x : TileState) (y : RouterState). record x { router = y }) (λ x y. refl) v w a b c same alike

pub banks_alike : (d : Design) (t : ℕ) (v w : TileState) (a b : Surroundings) (c : Choice) → v.bank ≡ w.bank
    → ((want : Want) → bank_wants (tiles_of d.shape) t v.bank c ≡ Some want → SameWhereWanted a b (bank_wiring d.shape t) want)
    → option_map (λ (p : TileState × Surroundings). p.0.bank) (tile_step d t v a Bank c)
    ≡ option_map (λ (p : TileState × Surroundings). p.0.bank) (tile_step d t w b Bank c)
banks_alike d t v w a b c same alike =
    own_alike (bank_wants (tiles_of d.shape) t) (bank_after (tiles_of d.shape) t) d.depth (bank_wiring d.shape t)
    (λ (x : TileState). x.bank) (λ (x : TileState) (y : BankState). record x { bank = y }) (λ x y. refl) v w a b c same alike
