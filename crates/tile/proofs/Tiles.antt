-- A choice of one of a tile's agents does over one word what it does to the surroundings.
use Rattle.std.proofs.Common.{◌≡◌, ℕ, ◌<◌, List, length, Option, Some, sym, ap, ◌∙◌, subst}
use Rattle.std.specs.Prelude.{option_map}
use Rattle.torus.specs.Shape.{IsAccepted, tiles_of}
use Rattle.torus.specs.declared.step.Choice.{Choice}
use Rattle.flit_buffer.specs.Agent.{Agent as WithPorts}
use Rattle.flit_buffer.specs.Surroundings.{Surroundings, ShowsAll, IsWired, ports_of}
use Rattle.flit_buffer.specs.Refinement.{agent_of, IsPlaced}
use Rattle.flit_buffer.specs.declared.want.Want.{Want}
use Rattle.router.specs.Beginning.{router_wiring}
use Rattle.router.specs.Table.{RouterState, router_wants, router_after}
use Rattle.one_order.specs.ProcessorTable.{ProcessorState, processor_wants, processor_after}
use Rattle.home_bank.specs.BankTable.{BankState, bank_wants, bank_after}
use Rattle.tile.specs.Wiring.{processor_wiring, bank_wiring}
use Rattle.tile.specs.declared.agent.Agent.{Agent}
use Rattle.tile.specs.declared.agent.Agent.TheVariants.{Processor, Router, Bank}
use Rattle.tile.specs.Tile.{Design, TileState, tile_step}
use Rattle.tile.specs.Agents.{TilePlace, wiring_of, tile_placed}
use Rattle.tile.specs.Refinement.{IsSurrounded, IsPossibleChoice, TileStays, TileMoves, TileRefines, KeepsOthers}
use Rattle.tile.proofs.Channels.{wired, apart}
use Rattle.tile.proofs.OneAgent.{Keeps, keeps, keeps_in, lifts}

abbrev kind : Agent → ℕ
kind Processor = 0
kind Router = 1
kind Bank = 2

module _ (d : Design) (t : ℕ) (tile : TileState) (around : Surroundings) (choice : Choice)
    (ok : IsAccepted d.shape) (t_in : t < tiles_of d.shape) (in_network : IsSurrounded d around) where
  wired_here : (a : Agent) → IsWired (length around.rings) (wiring_of d.shape t a)
  wired_here a = subst (λ n. IsWired n (wiring_of d.shape t a)) (sym in_network.count) (wired d.shape ok t t_in a)

  -- what an agent keeps, by its table
  module _ {S : Type 0} (a : Agent) (wants : S → Choice → Option Want) (after : S → Choice → Want → ℕ → S) (state : S)
      (placed : IsPlaced wants after d.depth (wiring_of d.shape t a) state around choice) (into : S → TileState) where
    keeps_others : (left : Surroundings) → Keeps wants after d.depth (wiring_of d.shape t a) state around choice in_network.rings placed into left
        → KeepsOthers d t a around left
    keeps_others left k = record {
      surrounded = record { count = k.count ∙ in_network.count; rings = k.rings };
      words = k.words;
      others = λ u b u_in other. k.others (wiring_of d.shape u b) (apart d.shape ok t u a b t_in u_in other);
    }

  -- the ports of the tile's other agents
  same_at : (a b : Agent) (left : Surroundings) → KeepsOthers d t a around left → (kind b ≡ kind a → ⊥)
      → ports_of d.depth around (wiring_of d.shape t b) ≡ ports_of d.depth left (wiring_of d.shape t b)
  same_at a b left k other = sym (k.others t b t_in (λ p. other (ap kind p.1)))

  abbrev Possible : Agent → Type 0
  Possible a = IsPossibleChoice d t tile around a choice

  module _ (possible : Possible Processor) where
    abbrev P-wants : ProcessorState → Choice → Option Want
    P-wants = processor_wants (tiles_of d.shape) d.words t

    abbrev P-after : ProcessorState → Choice → Want → ℕ → ProcessorState
    P-after = processor_after (tiles_of d.shape) d.words t

    P-placed : IsPlaced P-wants P-after d.depth (processor_wiring d.shape t) tile.processor around choice
    P-placed = record { wired = wired_here Processor; possible = possible }

    abbrev P-into : ProcessorState → TileState
    P-into s = record tile { processor = s }

    abbrev P-seen : WithPorts ProcessorState → TilePlace
    P-seen a = record (tile_placed d t tile around) { processor = a }

    P-others : (left : Surroundings)
        → Keeps P-wants P-after d.depth (processor_wiring d.shape t) tile.processor around choice in_network.rings P-placed P-into left
        → KeepsOthers d t Processor around left
    P-others left k = keeps_others Processor P-wants P-after tile.processor P-placed P-into left k

    P-fits : (next : ProcessorState) (left : Surroundings) → KeepsOthers d t Processor around left
        → P-seen (agent_of P-wants P-after d.depth (processor_wiring d.shape t) next left) ≡ tile_placed d t (P-into next) left
    P-fits next left k =
        let r = same_at Processor Router left k (λ z. cc) in
        let b = same_at Processor Bank left k (λ z. cc) in
        λ i. record (tile_placed d t (P-into next) left) {
          router = record { state = tile.router; ports = r i };
          bank = record { state = tile.bank; ports = b i };
        }

    P-refines : (row : List ℕ) → ShowsAll row d.depth around → TileRefines d t tile around row Processor choice
    P-refines row shows =
        lifts P-wants P-after d.depth (processor_wiring d.shape t) tile.processor around choice in_network.rings P-placed P-into row shows
        (TileStays d t tile around row Processor choice) (TileMoves d t tile around row Processor choice)
        (λ op k. record { idle = ap (λ o. option_map P-seen o) k.idle; same = k.same })
        (λ op next left e k. record {
          moved = ap (λ o. option_map P-seen o) k.moved
              ∙ ap (λ (p : TilePlace). Some p)
              (P-fits next left (P-others left
              (keeps P-wants P-after d.depth (processor_wiring d.shape t) tile.processor around choice in_network.rings P-placed P-into next left e)));
          shows = k.shows;
        })

  module _ (possible : Possible Router) where
    abbrev R-wants : RouterState → Choice → Option Want
    R-wants = router_wants d.shape t

    R-placed : IsPlaced R-wants router_after d.depth (router_wiring d.shape t) tile.router around choice
    R-placed = record { wired = wired_here Router; possible = possible }

    abbrev R-into : RouterState → TileState
    R-into s = record tile { router = s }

    abbrev R-seen : WithPorts RouterState → TilePlace
    R-seen a = record (tile_placed d t tile around) { router = a }

    R-others : (left : Surroundings)
        → Keeps R-wants router_after d.depth (router_wiring d.shape t) tile.router around choice in_network.rings R-placed R-into left
        → KeepsOthers d t Router around left
    R-others left k = keeps_others Router R-wants router_after tile.router R-placed R-into left k

    R-fits : (next : RouterState) (left : Surroundings) → KeepsOthers d t Router around left
        → R-seen (agent_of R-wants router_after d.depth (router_wiring d.shape t) next left) ≡ tile_placed d t (R-into next) left
    R-fits next left k =
        let p = same_at Router Processor left k (λ z. cc) in
        let b = same_at Router Bank left k (λ z. cc) in
        λ i. record (tile_placed d t (R-into next) left) {
          processor = record { state = tile.processor; ports = p i };
          bank = record { state = tile.bank; ports = b i };
        }

    R-refines : (row : List ℕ) → ShowsAll row d.depth around → TileRefines d t tile around row Router choice
    R-refines row shows =
        lifts R-wants router_after d.depth (router_wiring d.shape t) tile.router around choice in_network.rings R-placed R-into row shows
        (TileStays d t tile around row Router choice) (TileMoves d t tile around row Router choice)
        (λ op k. record { idle = ap (λ o. option_map R-seen o) k.idle; same = k.same })
        (λ op next left e k. record {
          moved = ap (λ o. option_map R-seen o) k.moved
              ∙ ap (λ (p : TilePlace). Some p)
              (R-fits next left (R-others left
              (keeps R-wants router_after d.depth (router_wiring d.shape t) tile.router around choice in_network.rings R-placed R-into next left e)));
          shows = k.shows;
        })

  module _ (possible : Possible Bank) where
    abbrev B-wants : BankState → Choice → Option Want
    B-wants = bank_wants (tiles_of d.shape) t

    abbrev B-after : BankState → Choice → Want → ℕ → BankState
    B-after = bank_after (tiles_of d.shape) t

    B-placed : IsPlaced B-wants B-after d.depth (bank_wiring d.shape t) tile.bank around choice
    B-placed = record { wired = wired_here Bank; possible = possible }

    abbrev B-into : BankState → TileState
    B-into s = record tile { bank = s }

    abbrev B-seen : WithPorts BankState → TilePlace
    B-seen a = record (tile_placed d t tile around) { bank = a }

    B-others : (left : Surroundings) → Keeps B-wants B-after d.depth (bank_wiring d.shape t) tile.bank around choice in_network.rings B-placed B-into left
        → KeepsOthers d t Bank around left
    B-others left k = keeps_others Bank B-wants B-after tile.bank B-placed B-into left k

    B-fits : (next : BankState) (left : Surroundings) → KeepsOthers d t Bank around left
        → B-seen (agent_of B-wants B-after d.depth (bank_wiring d.shape t) next left) ≡ tile_placed d t (B-into next) left
    B-fits next left k =
        let p = same_at Bank Processor left k (λ z. cc) in
        let r = same_at Bank Router left k (λ z. cc) in
        λ i. record (tile_placed d t (B-into next) left) {
          processor = record { state = tile.processor; ports = p i };
          router = record { state = tile.router; ports = r i };
        }

    B-refines : (row : List ℕ) → ShowsAll row d.depth around → TileRefines d t tile around row Bank choice
    B-refines row shows =
        lifts B-wants B-after d.depth (bank_wiring d.shape t) tile.bank around choice in_network.rings B-placed B-into row shows
        (TileStays d t tile around row Bank choice) (TileMoves d t tile around row Bank choice)
        (λ op k. record { idle = ap (λ o. option_map B-seen o) k.idle; same = k.same })
        (λ op next left e k. record {
          moved = ap (λ o. option_map B-seen o) k.moved
              ∙ ap (λ (p : TilePlace). Some p)
              (B-fits next left (B-others left
              (keeps B-wants B-after d.depth (bank_wiring d.shape t) tile.bank around choice in_network.rings B-placed B-into next left e)));
          shows = k.shows;
        })

  pub tile_refines : (a : Agent) → Possible a → (row : List ℕ) → ShowsAll row d.depth around → TileRefines d t tile around row a choice
  tile_refines Processor possible row shows = P-refines possible row shows
  tile_refines Router possible row shows = R-refines possible row shows
  tile_refines Bank possible row shows = B-refines possible row shows

  pub tile_keeps : (a : Agent) → Possible a → (next : TileState) (left : Surroundings) → tile_step d t tile around a choice ≡ Some (next, left)
      → KeepsOthers d t a around left
  tile_keeps Processor possible next left e =
      P-others possible left (keeps_in (P-wants possible) (P-after possible) d.depth (processor_wiring d.shape t) tile.processor around choice in_network.rings
      (P-placed possible) (P-into possible) next left e)
  tile_keeps Router possible next left e =
      R-others possible left (keeps_in (R-wants possible) router_after d.depth (router_wiring d.shape t) tile.router around choice in_network.rings
      (R-placed possible) (R-into possible) next left e)
  tile_keeps Bank possible next left e =
      B-others possible left (keeps_in (B-wants possible) (B-after possible) d.depth (bank_wiring d.shape t) tile.bank around choice in_network.rings
      (B-placed possible) (B-into possible) next left e)
