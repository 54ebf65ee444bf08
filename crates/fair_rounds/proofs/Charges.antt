-- Each step that begins no operation does of what is still to do what it counts.
use Rattle.std.proofs.Common.{◌≡◌, ◌≢◌, ℕ, ◌+◌, ◌-◌, ◌*◌, ◌<◌, ◌≤◌, zero, suc, Bool, false, cond, List, [], ◌∷◌, length, Option, Some, None, sym, ap, ◌∙◌, refl, arith, subst, slice_get, slice_set, get_or-set_same, get_or-set_other}
use Rattle.std.specs.Prelude.{option_map, option_and_then}
use Rattle.std.proofs.lemmas.Option.{slice_get_within, get_or_from_slice_get}
use Rattle.torus.specs.Shape.{IsAccepted, tiles_of}
use Rattle.torus.specs.declared.step.Step.{Step}
use Rattle.torus.specs.declared.step.Choice.{Choice}
use Rattle.flit_buffer.specs.declared.want.Want.{Want}
use Rattle.flit_buffer.specs.Surroundings.{Surroundings, Wiring, granted, agent_step}
use Rattle.wormhole.specs.Events.{network_after}
use Rattle.wormhole.specs.Weight.{sum_below}
use Rattle.wormhole.specs.Work.{End}
use Rattle.wormhole.proofs.Sums.{sum_one}
use Rattle.one_order.specs.Events.{order_after}
use Rattle.one_order.specs.Order.{LinearizationPoint}
use Rattle.core_laws.proofs.ResponseLists.{no_head as no_flits}
use Rattle.one_order.specs.ProcessorTable.{ProcessorState, processor_wants, processor_after}
use Rattle.router.specs.Table.{RouterState, router_wants, router_after}
use Rattle.router.specs.Beginning.{router_wiring}
use Rattle.home_bank.specs.BankTable.{BankState, bank_wants, bank_after}
use Rattle.tile.specs.Tile.{Design, TileState, tile_step}
use Rattle.tile.specs.Wiring.{processor_wiring, bank_wiring}
use Rattle.tile.specs.declared.agent.Agent.{Agent}
use Rattle.tile.specs.declared.agent.Agent.TheVariants.{Processor, Router, Bank}
use Rattle.tile.specs.Agents.{agent_kind, agent_tile}
use Rattle.core_laws.specs.Core.{Load, State, design_of, first_state, step, or_same}
use Rattle.core_laws.specs.Moves.{learned_by}
use Rattle.core_laws.specs.Runs.{IsAcceptedLoad, state_after}
use Rattle.core_laws.specs.Noted.{noted, event_by}
use Rattle.core_laws.specs.Network as network
use Rattle.core_laws.proofs.Projection.{net_of}
use Rattle.core_laws.proofs.AgentSteps.{Did, did, option_map_some}
use Rattle.core_laws.proofs.ProgressWired.{net_is}
use Rattle.core_laws.proofs.Told.{flits_tell}
use Rattle.core_laws.proofs.Histories.{event_at, next_at, after_more}
use Rattle.core_laws.proofs.EveryRun.{holds_in}
use Rattle.core_laws.proofs.Live.{stands_live}
use Rattle.core_laws.proofs.Machine.{StandsLive}
use Rattle.core_laws.proofs.MachineWork.{HasRoom}
use Rattle.core_laws.proofs.Rows.{end_of, unsent_flits}
use Rattle.core_laws.proofs.ProcessorWork.{processor_event}
use Rattle.core_laws.proofs.RouterWork.{router_event}
use Rattle.core_laws.proofs.BankWork.{bank_event}
use Rattle.core_laws.proofs.Stands.{Ghost, tile_at, no_tile}
use Rattle.core_laws.proofs.Values.{limited}
use Rattle.core_laws.proofs.ValuesProper.{ready_proper}
use Rattle.fair_rounds.specs.Burden.{burden}
use Rattle.fair_rounds.specs.Chores.{unsent_of, served_count, chores}
use Rattle.fair_rounds.specs.Charges.{charge}
use Rattle.machine_core.specs.Guarded.{is_begin, begins_operation}
use Rattle.fair_rounds.proofs.UnderWay.{Known}
use Rattle.fair_rounds.proofs.KnownRuns.{known_noted}
use Rattle.fair_rounds.proofs.Falls.{Falls, processor_falls, router_falls, bank_falls}

-- what an agent learns by a choice that it wants and is granted
learns : {S : Type 0} (wants : S → Choice → Option Want) (wiring : Wiring) (state : S) (around : Surroundings) (c : Choice) (w : Want) (learned : ℕ)
    → wants state c ≡ Some w → granted around wiring w ≡ Some learned → learned_by wants wiring state around c ≡ Some learned
learns wants wiring state around c w learned wanted grants = ap (option_and_then (granted around wiring)) wanted ∙ grants

unsent_is : (l : List ℕ) → unsent_flits l ≡ unsent_of l
unsent_is [] = ap (λ (b : Bool). cond b 0 0) no_flits
unsent_is (f ∷ fs) = refl

module _ (d : Design) (tags : ℕ) (opening : List ℕ) (s : State) (g : Ghost) (order : List LinearizationPoint) (accepted : IsAccepted d.shape)
    (at : StandsLive d tags opening s g order) (k : Known (net_of d) g.net) (cap : ℕ → ℕ) (roomy : HasRoom d s cap) where
  abbrev now_at : ℕ → End
  now_at t = end_of (cap t) (tile_at s t).processor (tile_at s t).bank

  -- a step of one of a tile's agents that begins no operation
  tile_falls : (t : ℕ) → t < tiles_of d.shape → (a : Agent) (c : Choice) (p : TileState × Surroundings) → tile_step d t (tile_at s t) s.around a c ≡ Some p
      → is_begin a c (tile_at s t).processor.to_put ≡ false
      → Falls (net_of d) g.net (network.tile_event d t (tile_at s t) s.around a c) (now_at t) (end_of (cap t) (p.0).processor (p.0).bank) (charge a c)
  tile_falls t here Processor c p enabled begin =
      let W : ProcessorState → Choice → Option Want = processor_wants (tiles_of d.shape) d.words t in
      let q = option_map_some _
      (agent_step W (processor_after (tiles_of d.shape) d.words t) d.depth (processor_wiring d.shape t) (tile_at s t).processor s.around c) p enabled in
      let x : Did W (processor_after (tiles_of d.shape) d.words t) d.depth (processor_wiring d.shape t) (tile_at s t).processor s.around c (q.0).0 (q.0).1 =
      did W (processor_after (tiles_of d.shape) d.words t) d.depth (processor_wiring d.shape t) (tile_at s t).processor s.around c (q.0).0 (q.0).1 q.1 in
      let e = processor_event d s g.net at.stands.mirrors accepted t (cap t) here (at.following t here) (λ tag o due. roomy.proper t tag o here due) c x.want
      x.learned x.wanted x.grants in
      let f = processor_falls d s g (net_is d accepted) k t (cap t) c x.want x.learned x.wanted begin _ e in
      subst (λ (u : TileState × Surroundings). Falls (net_of d) g.net (network.tile_event d t (tile_at s t) s.around Processor c) (now_at t)
      (end_of (cap t) (u.0).processor (u.0).bank) (charge Processor c)) q.2
      (subst (λ (o : Option ℕ). Falls (net_of d) g.net (option_and_then (network.processor_event d t (tile_at s t).processor s.around c) o) (now_at t)
      (end_of (cap t) (q.0).0 (tile_at s t).bank) (charge Processor c))
      (sym (learns W (processor_wiring d.shape t) (tile_at s t).processor s.around c x.want x.learned x.wanted x.grants))
      (subst (λ r. Falls (net_of d) g.net (network.processor_event d t (tile_at s t).processor s.around c x.learned) (now_at t)
      (end_of (cap t) r (tile_at s t).bank) (charge Processor c)) (sym x.state_is) f))
  tile_falls t here Router c p enabled begin =
      let W : RouterState → Choice → Option Want = router_wants d.shape t in
      let q = option_map_some _ (agent_step W router_after d.depth (router_wiring d.shape t) (tile_at s t).router s.around c) p enabled in
      let x : Did W router_after d.depth (router_wiring d.shape t) (tile_at s t).router s.around c (q.0).0 (q.0).1 =
      did W router_after d.depth (router_wiring d.shape t) (tile_at s t).router s.around c (q.0).0 (q.0).1 q.1 in
      let tell = flits_tell d s g.net accepted at.stands.lines at.stands.routes at.stands.mirrors in
      let e = router_event d s g.net accepted at.stands.mirrors tell t here c x.want x.learned x.wanted x.grants in
      let f = router_falls d s g (net_is d accepted) k t (cap t) c x.want x.learned x.wanted e in
      subst (λ (u : TileState × Surroundings). Falls (net_of d) g.net (network.tile_event d t (tile_at s t) s.around Router c) (now_at t)
      (end_of (cap t) (u.0).processor (u.0).bank) (charge Router c)) q.2
      (subst (λ (o : Option ℕ). Falls (net_of d) g.net (option_and_then (network.router_event d t (tile_at s t).router s.around c) o) (now_at t) (now_at t)
      (charge Router c))
      (sym (learns W (router_wiring d.shape t) (tile_at s t).router s.around c x.want x.learned x.wanted x.grants)) f)
  tile_falls t here Bank c p enabled begin =
      let W : BankState → Choice → Option Want = bank_wants (tiles_of d.shape) t in
      let q = option_map_some _ (agent_step W (bank_after (tiles_of d.shape) t) d.depth (bank_wiring d.shape t) (tile_at s t).bank s.around c) p enabled in
      let x : Did W (bank_after (tiles_of d.shape) t) d.depth (bank_wiring d.shape t) (tile_at s t).bank s.around c (q.0).0 (q.0).1 =
      did W (bank_after (tiles_of d.shape) t) d.depth (bank_wiring d.shape t) (tile_at s t).bank s.around c (q.0).0 (q.0).1 q.1 in
      let e = bank_event d s g at.stands.mirrors accepted at.stands.lines at.stands.carries t (cap t) here (at.stands.phases t)
      (λ r waits. roomy.room t r here waits) c x.want x.learned x.wanted x.grants in
      let f = bank_falls d s g (net_is d accepted) k t (cap t) c x.want x.learned x.wanted e in
      subst (λ (u : TileState × Surroundings). Falls (net_of d) g.net (network.tile_event d t (tile_at s t) s.around Bank c) (now_at t)
      (end_of (cap t) (u.0).processor (u.0).bank) (charge Bank c)) q.2
      (subst (λ (o : Option ℕ). Falls (net_of d) g.net (option_and_then (network.bank_event d t (tile_at s t).bank s.around c) o) (now_at t)
      (end_of (cap t) (tile_at s t).processor (q.0).0) (charge Bank c))
      (sym (learns W (bank_wiring d.shape t) (tile_at s t).bank s.around c x.want x.learned x.wanted x.grants))
      (subst (λ r. Falls (net_of d) g.net (network.bank_event d t (tile_at s t).bank s.around c x.learned) (now_at t)
      (end_of (cap t) (tile_at s t).processor r) (charge Bank c)) (sym x.state_is) f))

-- the tile whose agent makes a step
pub record HasStepped (d : Design) (s : State) (a : Step) (after : State) : Type 0 where
  pub tile : TileState
  pub there : slice_get s.tiles (agent_tile a.agent) ≡ Some tile
  pub moved : TileState × Surroundings
  pub enabled : tile_step d (agent_tile a.agent) tile s.around (agent_kind a.agent) a.choice ≡ Some moved
  pub is : record { tiles = slice_set s.tiles (agent_tile a.agent) moved.0; around = moved.1 } ≡ after

by_tile : (d : Design) (s : State) (a : Step) (after : State) (o : Option TileState) → slice_get s.tiles (agent_tile a.agent) ≡ o
    → option_and_then (λ tile. option_map (λ (p : TileState × Surroundings). record { tiles = slice_set s.tiles (agent_tile a.agent) p.0; around = p.1 })
    (tile_step d (agent_tile a.agent) tile s.around (agent_kind a.agent) a.choice)) o ≡ Some after
    → HasStepped d s a after
by_tile d s a after None there h = absurd (cc)
by_tile d s a after (Some tile) there h =
    let p = option_map_some (λ (p : TileState × Surroundings). record { tiles = slice_set s.tiles (agent_tile a.agent) p.0; around = p.1 })
    (tile_step d (agent_tile a.agent) tile s.around (agent_kind a.agent) a.choice) after h in
    record { tile = tile; there = there; moved = p.0; enabled = p.1; is = p.2 }

pub has_stepped : (d : Design) (s : State) (a : Step) (after : State) → step d s a ≡ Some after → HasStepped d s a after
has_stepped d s a after enabled = by_tile d s a after (slice_get s.tiles (agent_tile a.agent)) refl enabled

module _ (l : Load) (ok : IsAcceptedLoad l) (steps : List Step) (m : ℕ) (a : Step) (after : State) (there : slice_get steps m ≡ Some a)
    (enabled : step (design_of l) (state_after l steps m) a ≡ Some after) (begin : begins_operation (state_after l steps m) a ≡ false) where
  abbrev d : Design
  d = design_of l

  abbrev s : State
  s = state_after l steps m

  abbrev g : Ghost
  g = noted l steps m

  -- a bank may make as many entries as it has made before and after, and one more
  abbrev cap : ℕ → ℕ
  cap t = length (tile_at s t).bank.entries + length (tile_at after t).bank.entries + 1

  roomy : HasRoom d s cap
  roomy = record {
    proper = λ t tag o here due.
        (ready_proper d l.tags (limited l ok) l.opening s g (order_after (event_at l steps) m) (holds_in l ok steps m).stands (holds_in l ok steps m).values
        t tag o here due).0;
    room = λ t r here waits. omega arith;
  }

  abbrev rest_of : State → ℕ → ℕ
  rest_of z t = 30 * unsent_of (tile_at z t).bank.to_put + 91 * (cap t - length (tile_at z t).bank.entries)

  -- what is owed to all ends
  sum_due : (z : State) → ((t : ℕ) → length (tile_at z t).bank.entries ≤ cap t)
      → sum_below (tiles_of l.shape) (rest_of z) + 91 * served_count d z
      ≡ 30 * sum_below (tiles_of l.shape) (λ t. unsent_of (tile_at z t).bank.to_put) + 91 * sum_below (tiles_of l.shape) cap
  sum_due z few = each (tiles_of l.shape)
    where
      each : (c : ℕ) → sum_below c (rest_of z) + 91 * sum_below c (λ t. length (tile_at z t).bank.entries)
          ≡ 30 * sum_below c (λ t. unsent_of (tile_at z t).bank.to_put) + 91 * sum_below c cap
      each zero = refl
      each (suc c) = let rest = each c in let here = few c in omega (arith, rest, here)

  -- The step does of what is still to do what it counts.
  pub step_charges : chores l steps (suc m) + 91 * served_count d s + charge (agent_kind a.agent) a.choice
      ≤ chores l steps m + 91 * served_count d (state_after l steps (suc m))
  step_charges =
      let h : HasStepped d s a after = has_stepped d s a after enabled in
      let t : ℕ = agent_tile a.agent in
      let live = stands_live l ok steps m in
      let low : t < length s.tiles = slice_get_within s.tiles t h.tile h.there in
      let here : t < tiles_of l.shape = subst (λ n. t < n) live.stands.tiles low in
      let now : tile_at s t ≡ h.tile = get_or_from_slice_get s.tiles t h.tile no_tile h.there in
      let kind : Agent = agent_kind a.agent in
      let f = tile_falls d l.tags l.opening s g (order_after (event_at l steps) m) ok.shape live (known_noted l ok steps m) cap roomy t here kind a.choice h.moved
      (ap (λ (u : TileState). tile_step d t u s.around kind a.choice) now ∙ h.enabled) begin in
      let told : network.tile_event d t (tile_at s t) s.around kind a.choice ≡ network.network_event d s a =
      ap (λ (u : TileState). network.tile_event d t u s.around kind a.choice) now
      ∙ ap (λ (o : Option TileState). option_and_then (λ tile. network.tile_event d t tile s.around kind a.choice) o) (sym h.there) in
      let new : tile_at after t ≡ (h.moved).0 = ap (λ (z : State). tile_at z t) (sym h.is) ∙ get_or-set_same s.tiles t (h.moved).0 no_tile low in
      let others : (z : ℕ) → z ≢ t → tile_at after z ≡ tile_at s z =
      λ z other. ap (λ (y : State). tile_at y z) (sym h.is) ∙ get_or-set_other s.tiles t z (h.moved).0 no_tile other in
      let state : state_after l steps (suc m) ≡ after =
      after_more d steps (first_state l) m ∙ ap (next_at d s) there ∙ ap (or_same s) enabled in
      let net : (noted l steps (suc m)).net ≡ network_after (net_of d) g.net (network.tile_event d t (tile_at s t) s.around kind a.choice) =
      ap (λ (b : Option Step). network_after (net_of d) g.net (event_by l s b)) there ∙ ap (network_after (net_of d) g.net) (sym told) in
      let burdens : burden (net_of d) (noted l steps (suc m)).net
      ≡ burden (net_of d) (network_after (net_of d) g.net (network.tile_event d t (tile_at s t) s.around kind a.choice)) = ap (burden (net_of d)) net in
      let unsent_now = unsent_is (tile_at s t).bank.to_put in
      let unsent_new : unsent_flits (h.moved).0.bank.to_put ≡ unsent_of (tile_at after t).bank.to_put =
      unsent_is (h.moved).0.bank.to_put ∙ ap (λ (u : TileState). unsent_of u.bank.to_put) (sym new) in
      let entries_new : length (h.moved).0.bank.entries ≡ length (tile_at after t).bank.entries = ap (λ (u : TileState). length u.bank.entries) (sym new) in
      let sums = sum_one (tiles_of l.shape) t (rest_of s) (rest_of after) here
      (λ z inside other. ap (λ (u : TileState). 30 * unsent_of u.bank.to_put + 91 * (cap z - length u.bank.entries)) (others z other)) in
      let before = sum_due s (λ z. omega arith) in
      let behind = sum_due after (λ z. omega arith) in
      let chores_now : chores l steps (suc m) ≡ burden (net_of d) (noted l steps (suc m)).net
      + 30 * sum_below (tiles_of l.shape) (λ b. unsent_of (tile_at after b).bank.to_put) =
      ap (λ (z : State). burden (net_of d) (noted l steps (suc m)).net + 30 * sum_below (tiles_of l.shape) (λ b. unsent_of (tile_at z b).bank.to_put)) state in
      let served_now : served_count d (state_after l steps (suc m)) ≡ served_count d after = ap (served_count d) state in
      omega (arith, f, burdens, unsent_now, unsent_new, entries_new, sums, before, behind, chores_now, served_now)
