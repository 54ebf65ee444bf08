-- Each enabled step of the machine makes at least one of the moves that are owed.
use Rattle.std.proofs.Common.{◌≡◌, ℕ, ◌<◌, List, length, Option, Some, None, refl, sym, ◌∙◌, ap, subst, slice_get, slice_set, get_or-set_same}
use Rattle.std.proofs.Common.{get_or-set_other}
use Rattle.std.specs.Prelude.{option_map, option_and_then}
use Rattle.std.proofs.lemmas.Option.{slice_get_within, get_or_from_slice_get}
use Rattle.torus.specs.Shape.{IsAccepted, tiles_of}
use Rattle.torus.specs.declared.step.Step.{Step}
use Rattle.torus.specs.declared.step.Choice.{Choice}
use Rattle.packet.specs.declared.kinds.Operation.{Operation}
use Rattle.packet.specs.declared.kinds.Request.{Request as Asking}
use Rattle.flit_buffer.specs.Surroundings.{Surroundings, agent_step}
use Rattle.one_order.specs.ProcessorRecord.{ready, request_of}
use Rattle.one_order.specs.Order.{LinearizationPoint}
use Rattle.wormhole.specs.Work.{End, IsChange, IsStep, work}
use Rattle.wormhole.proofs.Working.{work_falls}
use Rattle.router.specs.Table.{router_wants, router_after}
use Rattle.one_order.specs.ProcessorTable.{processor_wants, processor_after}
use Rattle.home_bank.specs.BankTable.{bank_wants, bank_after}
use Rattle.core_laws.specs.Wiring.{processor_wiring, bank_wiring}
use Rattle.router.specs.Beginning.{router_wiring}
use Rattle.core_laws.specs.Agent.{Agent}
use Rattle.core_laws.specs.Agent.TheVariants.{Processor, Router, Bank}
use Rattle.core_laws.specs.Tile.{Design, TileState, tile_step}
use Rattle.core_laws.specs.Agents.{agent_kind, agent_tile}
use Rattle.core_laws.specs.Core.{State, step}
use Rattle.core_laws.proofs.AgentSteps.{Did, did, option_map_some}
use Rattle.core_laws.proofs.Projection.{net_of}
use Rattle.core_laws.proofs.Stands.{Ghost, tile_at, no_tile, IsProperRequest}
use Rattle.core_laws.proofs.ProgressWired.{net_is}
use Rattle.core_laws.proofs.Told.{flits_tell}
use Rattle.core_laws.proofs.Machine.{StandsLive}
use Rattle.core_laws.proofs.RouterWork.{router_event}
use Rattle.wormhole.specs.Events.{NetEvent, network_after}
use Rattle.flit_buffer.specs.declared.want.Want.{Want}
use Rattle.flit_buffer.specs.Surroundings.{Wiring, granted}
use Rattle.router.specs.Table.{RouterState}
use Rattle.home_bank.specs.BankTable.{BankState}
use Rattle.one_order.specs.ProcessorTable.{ProcessorState}
use Rattle.core_laws.specs.Moves.{learned_by}
use Rattle.core_laws.specs.Network as network
use Rattle.core_laws.proofs.ProcessorWork.{IsTileEvent, processor_event}
use Rattle.core_laws.proofs.BankWork.{bank_event}
use Rattle.core_laws.proofs.Rows.{end_of}

-- what the ends of each tile have still to do, where each bank may make so many entries
abbrev pub ends_at : (ℕ → ℕ) → State → ℕ → End
ends_at cap s t = end_of (cap t) (tile_at s t).processor (tile_at s t).bank

-- what an agent learns by a choice that it wants and is granted
learns : {S : Type 0} (wants : S → Choice → Option Want) (wiring : Wiring) (state : S) (around : Surroundings) (c : Choice) (w : Want) (learned : ℕ)
    → wants state c ≡ Some w → granted around wiring w ≡ Some learned → learned_by wants wiring state around c ≡ Some learned
learns wants wiring state around c w learned wanted grants = ap (option_and_then (granted around wiring)) wanted ∙ grants

-- what else is asked of a state: requests that are ready can be spelled, and a bank with a request that waits has room
pub record HasRoom (d : Design) (s : State) (cap : ℕ → ℕ) : Type 0 where
  pub proper : (t tag : ℕ) (o : Operation) → t < tiles_of d.shape → ready (tile_at s t).processor.operations ≡ Some (tag, o)
      → IsProperRequest d (request_of (tiles_of d.shape) t tag o)
  pub room : (t : ℕ) (r : Asking) → t < tiles_of d.shape → (tile_at s t).bank.waiting ≡ Some r → length (tile_at s t).bank.entries < cap t

module _ (d : Design) (tags : ℕ) (opening : List ℕ) (s : State) (g : Ghost) (order : List LinearizationPoint) (accepted : IsAccepted d.shape)
    (at : StandsLive d tags opening s g order) (cap : ℕ → ℕ) (roomy : HasRoom d s cap) where
  -- a step of one of a tile's agents
  tile_event : (t : ℕ) → t < tiles_of d.shape → (a : Agent) (c : Choice) (p : TileState × Surroundings) → tile_step d t (tile_at s t) s.around a c ≡ Some p
      → IsTileEvent d g.net (network.tile_event d t (tile_at s t) s.around a c) (end_of (cap t) (tile_at s t).processor (tile_at s t).bank)
      (end_of (cap t) (p.0).processor (p.0).bank)
  tile_event t here Processor c p enabled =
      let W : ProcessorState → Choice → Option Want = processor_wants (tiles_of d.shape) d.words t in
      let q = option_map_some _
      (agent_step W (processor_after (tiles_of d.shape) d.words t) d.depth (processor_wiring d.shape t) (tile_at s t).processor s.around c) p enabled in
      let x : Did W (processor_after (tiles_of d.shape) d.words t) d.depth (processor_wiring d.shape t) (tile_at s t).processor s.around c (q.0).0 (q.0).1 =
      did W (processor_after (tiles_of d.shape) d.words t) d.depth (processor_wiring d.shape t) (tile_at s t).processor s.around c (q.0).0 (q.0).1 q.1 in
      let e = processor_event d s g.net at.stands.mirrors accepted t (cap t) here (at.following t here) (λ tag o due. roomy.proper t tag o here due) c x.want
      x.learned x.wanted x.grants in
      let now : End = end_of (cap t) (tile_at s t).processor (tile_at s t).bank in
      subst (λ (u : TileState × Surroundings). IsTileEvent d g.net (network.tile_event d t (tile_at s t) s.around Processor c) now
      (end_of (cap t) (u.0).processor (u.0).bank)) q.2
      (subst (λ (o : Option ℕ). IsTileEvent d g.net (option_and_then (network.processor_event d t (tile_at s t).processor s.around c) o) now
      (end_of (cap t) (q.0).0 (tile_at s t).bank))
      (sym (learns W (processor_wiring d.shape t) (tile_at s t).processor s.around c x.want x.learned x.wanted x.grants))
      (subst (λ r. IsTileEvent d g.net (network.processor_event d t (tile_at s t).processor s.around c x.learned) now (end_of (cap t) r (tile_at s t).bank))
      (sym x.state_is) e))
  tile_event t here Router c p enabled =
      let W : RouterState → Choice → Option Want = router_wants d.shape t in
      let q = option_map_some _ (agent_step W router_after d.depth (router_wiring d.shape t) (tile_at s t).router s.around c) p enabled in
      let x : Did W router_after d.depth (router_wiring d.shape t) (tile_at s t).router s.around c (q.0).0 (q.0).1 =
      did W router_after d.depth (router_wiring d.shape t) (tile_at s t).router s.around c (q.0).0 (q.0).1 q.1 in
      let tell = flits_tell d s g.net accepted at.stands.lines at.stands.routes at.stands.mirrors in
      let e = router_event d s g.net accepted at.stands.mirrors tell t here c x.want x.learned x.wanted x.grants in
      let now : End = end_of (cap t) (tile_at s t).processor (tile_at s t).bank in
      subst (λ (u : TileState × Surroundings). IsTileEvent d g.net (network.tile_event d t (tile_at s t) s.around Router c) now
      (end_of (cap t) (u.0).processor (u.0).bank)) q.2
      (subst (λ (o : Option ℕ). IsTileEvent d g.net (option_and_then (network.router_event d t (tile_at s t).router s.around c) o) now now)
      (sym (learns W (router_wiring d.shape t) (tile_at s t).router s.around c x.want x.learned x.wanted x.grants))
      (record { may = e.may; change = e.stays now }))
  tile_event t here Bank c p enabled =
      let W : BankState → Choice → Option Want = bank_wants (tiles_of d.shape) t in
      let q = option_map_some _ (agent_step W (bank_after (tiles_of d.shape) t) d.depth (bank_wiring d.shape t) (tile_at s t).bank s.around c) p enabled in
      let x : Did W (bank_after (tiles_of d.shape) t) d.depth (bank_wiring d.shape t) (tile_at s t).bank s.around c (q.0).0 (q.0).1 =
      did W (bank_after (tiles_of d.shape) t) d.depth (bank_wiring d.shape t) (tile_at s t).bank s.around c (q.0).0 (q.0).1 q.1 in
      let e = bank_event d s g at.stands.mirrors accepted at.stands.lines at.stands.carries t (cap t) here (at.stands.phases t)
      (λ r waits. roomy.room t r here waits) c x.want x.learned x.wanted x.grants in
      let now : End = end_of (cap t) (tile_at s t).processor (tile_at s t).bank in
      subst (λ (u : TileState × Surroundings). IsTileEvent d g.net (network.tile_event d t (tile_at s t) s.around Bank c) now
      (end_of (cap t) (u.0).processor (u.0).bank)) q.2
      (subst (λ (o : Option ℕ). IsTileEvent d g.net (option_and_then (network.bank_event d t (tile_at s t).bank s.around c) o) now
      (end_of (cap t) (tile_at s t).processor (q.0).0))
      (sym (learns W (bank_wiring d.shape t) (tile_at s t).bank s.around c x.want x.learned x.wanted x.grants))
      (subst (λ r. IsTileEvent d g.net (network.bank_event d t (tile_at s t).bank s.around c x.learned) now (end_of (cap t) (tile_at s t).processor r))
      (sym x.state_is) e))

  -- the tile whose agent makes the step
  pub record HasStepped (a : Step) (after : State) : Type 0 where
    pub tile : TileState
    pub there : slice_get s.tiles (agent_tile a.agent) ≡ Some tile
    pub moved : TileState × Surroundings
    pub enabled : tile_step d (agent_tile a.agent) tile s.around (agent_kind a.agent) a.choice ≡ Some moved
    pub is : record { tiles = slice_set s.tiles (agent_tile a.agent) moved.0; around = moved.1 } ≡ after

  has_stepped : (a : Step) (after : State) → step d s a ≡ Some after → HasStepped a after
  has_stepped a after enabled = by_tile (slice_get s.tiles (agent_tile a.agent)) refl enabled
    where
      by_tile : (o : Option TileState) → slice_get s.tiles (agent_tile a.agent) ≡ o
          → option_and_then (λ tile. option_map (λ (p : TileState × Surroundings). record { tiles = slice_set s.tiles (agent_tile a.agent) p.0; around = p.1 })
          (tile_step d (agent_tile a.agent) tile s.around (agent_kind a.agent) a.choice)) o ≡ Some after
          → HasStepped a after
      by_tile None there h = absurd (cc)
      by_tile (Some tile) there h =
          let p = option_map_some (λ (p : TileState × Surroundings). record { tiles = slice_set s.tiles (agent_tile a.agent) p.0; around = p.1 })
          (tile_step d (agent_tile a.agent) tile s.around (agent_kind a.agent) a.choice) after h in
          record { tile = tile; there = there; moved = p.0; enabled = p.1; is = p.2 }

  -- an enabled step of the machine is one of the ends' and the network's
  pub machine_step : (a : Step) (after : State) → step d s a ≡ Some after
      → IsStep (net_of d) (tiles_of d.shape) (ends_at cap s) g.net (ends_at cap after) (network_after (net_of d) g.net (network.network_event d s a))
  machine_step a after enabled =
      let h : HasStepped a after = has_stepped a after enabled in
      let t : ℕ = agent_tile a.agent in
      let low : t < length s.tiles = slice_get_within s.tiles t h.tile h.there in
      let here : t < tiles_of d.shape = subst (λ n. t < n) at.stands.tiles low in
      let now : tile_at s t ≡ h.tile = get_or_from_slice_get s.tiles t h.tile no_tile h.there in
      let agent : Agent = agent_kind a.agent in
      let e = tile_event t here agent a.choice h.moved (ap (λ (u : TileState). tile_step d t u s.around agent a.choice) now ∙ h.enabled) in
      let told : network.tile_event d t (tile_at s t) s.around agent a.choice ≡ network.network_event d s a =
      ap (λ (u : TileState). network.tile_event d t u s.around agent a.choice) now
      ∙ ap (λ (o : Option TileState). option_and_then (λ tile. network.tile_event d t tile s.around agent a.choice) o) (sym h.there) in
      let new : tile_at after t ≡ (h.moved).0 = ap (λ (z : State). tile_at z t) (sym h.is) ∙ get_or-set_same s.tiles t (h.moved).0 no_tile low in
      subst (λ (v : Option NetEvent). IsStep (net_of d) (tiles_of d.shape) (ends_at cap s) g.net (ends_at cap after) (network_after (net_of d) g.net v)) told
      (record {
        tile = t;
        here = here;
        event = network.tile_event d t (tile_at s t) s.around agent a.choice;
        may = e.may;
        change = subst (λ (u : TileState). IsChange (net_of d) (network.tile_event d t (tile_at s t) s.around agent a.choice) (ends_at cap s t)
            (end_of (cap t) u.processor u.bank)) (sym new) e.change;
        others = λ z inside other. ap (λ (u : TileState). end_of (cap z) u.processor u.bank)
            (ap (λ (y : State). tile_at y z) (sym h.is) ∙ get_or-set_other s.tiles t z (h.moved).0 no_tile other);
        network = refl;
      })

  -- and makes at least one of the moves that are owed
  pub machine_work_falls : (a : Step) (after : State) → step d s a ≡ Some after
      → work (net_of d) (tiles_of d.shape) (ends_at cap after) (network_after (net_of d) g.net (network.network_event d s a))
      < work (net_of d) (tiles_of d.shape) (ends_at cap s) g.net
  machine_work_falls a after enabled =
      work_falls (net_of d) g.net (net_is d accepted) at.stands.lines at.stands.routes (tiles_of d.shape) (ends_at cap s) (ends_at cap after)
      (network_after (net_of d) g.net (network.network_event d s a)) (machine_step a after enabled)
