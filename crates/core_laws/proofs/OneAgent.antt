-- What a step touches: one agent of one tile, and what that agent wanted of the surroundings.
use Rattle.std.proofs.Common.{◌≡◌, ◌≢◌, ℕ, Some, sym, ◌∙◌, ap, slice_get, slice_set}
use Rattle.std.proofs.lemmas.Option.{option_and_then_some}
use Rattle.one_order.proofs.Lists.{get_set_other}
use Rattle.torus.specs.Shape.{tiles_of}
use Rattle.torus.specs.declared.step.Step.{Step}
use Rattle.torus.specs.declared.step.Choice.{Choice}
use Rattle.flit_buffer.specs.Surroundings.{Surroundings}
use Rattle.router.specs.Table.{RouterState, router_wants, router_after}
use Rattle.router.specs.Beginning.{router_wiring}
use Rattle.one_order.specs.ProcessorTable.{ProcessorState, processor_wants, processor_after}
use Rattle.home_bank.specs.BankTable.{BankState, bank_wants, bank_after}
use Rattle.tile.specs.Wiring.{processor_wiring, bank_wiring}
use Rattle.tile.specs.declared.agent.Agent.TheVariants.{Processor, Router, Bank}
use Rattle.tile.specs.Tile.{Design, TileState, tile_step}
use Rattle.tile.specs.Agents.{agent_tile}
use Rattle.core_laws.specs.Core.{State, step}
use Rattle.core_laws.specs.Touches.{ProcessorAlone, RouterAlone, BankAlone}
use Rattle.core_laws.proofs.AgentSteps.{did, option_map_some}

-- other tiles stay
pub other_tiles : (d : Design) (s : State) (attempt : Step) (next : State) (u : ℕ) → step d s attempt ≡ Some next → u ≢ agent_tile attempt.agent
    → slice_get next.tiles u ≡ slice_get s.tiles u
other_tiles d s attempt next u h other = option_and_then_some _ (slice_get s.tiles (agent_tile attempt.agent)) next h (λ tile there f.
    let k = option_map_some (λ (p : TileState × Surroundings). record { tiles = slice_set s.tiles (agent_tile attempt.agent) p.0; around = p.1 }) _ next f in
    ap (λ (x : State). slice_get x.tiles u) (sym k.2) ∙ get_set_other s.tiles (agent_tile attempt.agent) u k.0.0 other)

module _ (d : Design) (t : ℕ) (tile : TileState) (around : Surroundings) (c : Choice) (left : TileState) (after : Surroundings) where
  pub processor_alone : tile_step d t tile around Processor c ≡ Some (left, after) → ProcessorAlone d t tile around c left after
  processor_alone h =
      let f = option_map_some (λ (p : ProcessorState × Surroundings). (record tile { processor = p.0 }, p.1)) _ (left, after) h in
      let x = did (processor_wants (tiles_of d.shape) d.words t) (processor_after (tiles_of d.shape) d.words t) d.depth (processor_wiring d.shape t)
      tile.processor around c f.0.0 f.0.1 f.1 in
      record {
        want = x.want;
        wanted = x.wanted;
        router = ap (λ (p : TileState × Surroundings). p.0.router) (sym f.2);
        bank = ap (λ (p : TileState × Surroundings). p.0.bank) (sym f.2);
        shared = ap (λ (p : TileState × Surroundings). p.1) (sym f.2) ∙ x.around_is;
      }

  pub router_alone : tile_step d t tile around Router c ≡ Some (left, after) → RouterAlone d t tile around c left after
  router_alone h =
      let f = option_map_some (λ (p : RouterState × Surroundings). (record tile { router = p.0 }, p.1)) _ (left, after) h in
      let x = did (router_wants d.shape t) router_after d.depth (router_wiring d.shape t) tile.router around c f.0.0 f.0.1 f.1 in
      record {
        want = x.want;
        wanted = x.wanted;
        processor = ap (λ (p : TileState × Surroundings). p.0.processor) (sym f.2);
        bank = ap (λ (p : TileState × Surroundings). p.0.bank) (sym f.2);
        shared = ap (λ (p : TileState × Surroundings). p.1) (sym f.2) ∙ x.around_is;
      }

  pub bank_alone : tile_step d t tile around Bank c ≡ Some (left, after) → BankAlone d t tile around c left after
  bank_alone h =
      let f = option_map_some (λ (p : BankState × Surroundings). (record tile { bank = p.0 }, p.1)) _ (left, after) h in
      let x = did (bank_wants (tiles_of d.shape) t) (bank_after (tiles_of d.shape) t) d.depth (bank_wiring d.shape t) tile.bank around c f.0.0 f.0.1 f.1 in
      record {
        want = x.want;
        wanted = x.wanted;
        processor = ap (λ (p : TileState × Surroundings). p.0.processor) (sym f.2);
        router = ap (λ (p : TileState × Surroundings). p.0.router) (sym f.2);
        shared = ap (λ (p : TileState × Surroundings). p.1) (sym f.2) ∙ x.around_is;
      }
