-- A step, by what it wants: it is enabled where that is granted, and leaves what other agents want.
use Rattle.std.proofs.Common.{◌≡◌, ◌≢◌, ◌↔◌, ℕ, inl, inr, Option, Some, None, refl, sym, ◌∙◌, ap, slice_get}
use Rattle.std.proofs.Common.{slice_set}
use Rattle.std.specs.Prelude.{option_map, option_and_then}
use Rattle.std.proofs.lemmas.Bool.{cases_eq}
use Rattle.std.proofs.lemmas.Option.{slice_get_within}
use Rattle.one_order.proofs.Lists.{get_set_same, get_set_other}
use Rattle.torus.specs.Shape.{tiles_of}
use Rattle.torus.specs.declared.step.Step.{Step}
use Rattle.torus.specs.declared.step.Choice.{Choice}
use Rattle.flit_buffer.specs.declared.want.Want.{Want}
use Rattle.flit_buffer.specs.Surroundings.{Surroundings, Wiring, granted, surroundings_after, agent_step, step_with}
use Rattle.router.specs.Table.{RouterState, router_wants, router_after}
use Rattle.router.specs.Beginning.{router_wiring}
use Rattle.one_order.specs.ProcessorTable.{ProcessorState, processor_wants, processor_after}
use Rattle.home_bank.specs.BankTable.{BankState, bank_wants, bank_after}
use Rattle.core_laws.specs.Wiring.{processor_wiring, bank_wiring}
use Rattle.core_laws.specs.Agent.{Agent}
use Rattle.core_laws.specs.Agent.TheVariants.{Processor, Router, Bank}
use Rattle.core_laws.specs.Tile.{Design, TileState, tile_step}
use Rattle.core_laws.specs.Agents.{wiring_of, tile_wants, agent_kind, agent_tile}
use Rattle.core_laws.proofs.AgentNumbers.{number_of_agent, number_is}
use Rattle.core_laws.specs.Core.{State, step}
use Rattle.core_laws.proofs.AgentSteps.{option_map_some, option_map_none, refused}
use Rattle.core_laws.proofs.OneAgent.{processor_alone, router_alone, bank_alone}
use Rattle.core_laws.proofs.RowSteps.{step_of_tile, step_of_none}
use Rattle.core_laws.specs.Waking.{wiring_at, wanted}

map_none : {A B : Type 0} (f : A → B) (o : Option A) → o ≡ None → option_map f o ≡ None
map_none f None h = refl
map_none f (Some x) h = absurd (cc)

-- of one agent
module _ {S : Type 0} (wants : S → Choice → Option Want) (after : S → Choice → Want → ℕ → S) (depth : ℕ) (wiring : Wiring) (state : S) (around : Surroundings)
    (choice : Choice) where
  idle_granted : (want : Want) (g : Option ℕ) → g ≡ None → step_with wants after depth wiring state around choice want g ≡ None
  idle_granted want None h = refl
  idle_granted want (Some learned) h = absurd (cc)

  idle_wanted : (o : Option Want) → option_and_then (granted around wiring) o ≡ None
      → option_and_then (λ want. step_with wants after depth wiring state around choice want (granted around wiring want)) o ≡ None
  idle_wanted None h = refl
  idle_wanted (Some want) h = idle_granted want (granted around wiring want) h

  idle : (agent_step wants after depth wiring state around choice ≡ None) ↔ (option_and_then (granted around wiring) (wants state choice) ≡ None)
  idle = (refused wants after depth wiring state around choice, idle_wanted (wants state choice))

-- of an agent in its tile
module _ {S : Type 0} (wants : S → Choice → Option Want) (after : S → Choice → Want → ℕ → S) (depth : ℕ) (wiring : Wiring) (state : S) (around : Surroundings)
    (choice : Choice) (into : S → TileState) where
  abbrev lifted : S × Surroundings → TileState × Surroundings
  lifted p = (into p.0, p.1)

  idle_in : (option_map lifted (agent_step wants after depth wiring state around choice) ≡ None)
      ↔ (option_and_then (granted around wiring) (wants state choice) ≡ None)
  idle_in =
      let both = idle wants after depth wiring state around choice in (
        λ h. both.0 (option_map_none lifted (agent_step wants after depth wiring state around choice) h),
        λ h. map_none lifted (agent_step wants after depth wiring state around choice) (both.1 h),
      )

module _ (d : Design) (t : ℕ) (tile : TileState) (around : Surroundings) (c : Choice) where
  tile_idle : (a : Agent) → (tile_step d t tile around a c ≡ None) ↔ (option_and_then (granted around (wiring_of d.shape t a)) (tile_wants d t tile a c) ≡ None)
  tile_idle Processor = idle_in (processor_wants (tiles_of d.shape) d.words t) (processor_after (tiles_of d.shape) d.words t) d.depth
      (processor_wiring d.shape t) tile.processor around c (λ (p : ProcessorState). record tile { processor = p })
  tile_idle Router = idle_in (router_wants d.shape t) router_after d.depth (router_wiring d.shape t) tile.router around c
      (λ (r : RouterState). record tile { router = r })
  tile_idle Bank = idle_in (bank_wants (tiles_of d.shape) t) (bank_after (tiles_of d.shape) t) d.depth (bank_wiring d.shape t) tile.bank around c
      (λ (b : BankState). record tile { bank = b })

  -- an enabled step's want, what it leaves around, and that the tile's other agents want what they did
  pub record Alone (a : Agent) (p : TileState × Surroundings) : Type 0 where
    pub want : Want
    pub wants : tile_wants d t tile a c ≡ Some want
    pub leaves : p.1 ≡ surroundings_after d.depth around (wiring_of d.shape t a) want
    pub others : (b : Agent) (choice : Choice) → b ≢ a → tile_wants d t p.0 b choice ≡ tile_wants d t tile b choice

  alone : (a : Agent) (p : TileState × Surroundings) → tile_step d t tile around a c ≡ Some p → Alone a p
  alone Processor p h =
      let x = processor_alone d t tile around c p.0 p.1 h in
      record { want = x.want; wants = x.wanted; leaves = x.shared; others = others }
    where
      others : (b : Agent) (choice : Choice) → b ≢ Processor → tile_wants d t p.0 b choice ≡ tile_wants d t tile b choice
      others Processor choice ne = absurd (ne refl)
      others Router choice ne = ap (λ (r : RouterState). router_wants d.shape t r choice) (processor_alone d t tile around c p.0 p.1 h).router
      others Bank choice ne = ap (λ (b : BankState). bank_wants (tiles_of d.shape) t b choice) (processor_alone d t tile around c p.0 p.1 h).bank
  alone Router p h =
      let x = router_alone d t tile around c p.0 p.1 h in
      record { want = x.want; wants = x.wanted; leaves = x.shared; others = others }
    where
      others : (b : Agent) (choice : Choice) → b ≢ Router → tile_wants d t p.0 b choice ≡ tile_wants d t tile b choice
      others Router choice ne = absurd (ne refl)
      others Processor choice ne =
          ap (λ (r : ProcessorState). processor_wants (tiles_of d.shape) d.words t r choice) (router_alone d t tile around c p.0 p.1 h).processor
      others Bank choice ne = ap (λ (b : BankState). bank_wants (tiles_of d.shape) t b choice) (router_alone d t tile around c p.0 p.1 h).bank
  alone Bank p h =
      let x = bank_alone d t tile around c p.0 p.1 h in
      record { want = x.want; wants = x.wanted; leaves = x.shared; others = others }
    where
      others : (b : Agent) (choice : Choice) → b ≢ Bank → tile_wants d t p.0 b choice ≡ tile_wants d t tile b choice
      others Bank choice ne = absurd (ne refl)
      others Processor choice ne =
          ap (λ (r : ProcessorState). processor_wants (tiles_of d.shape) d.words t r choice) (bank_alone d t tile around c p.0 p.1 h).processor
      others Router choice ne = ap (λ (r : RouterState). router_wants d.shape t r choice) (bank_alone d t tile around c p.0 p.1 h).router

-- of a tile in the machine
module _ (d : Design) (s : State) (attempt : Step) where
  abbrev t : ℕ
  t = agent_tile attempt.agent

  abbrev a : Agent
  a = agent_kind attempt.agent

  abbrev with_tile : TileState × Surroundings → State
  with_tile p = record { tiles = slice_set s.tiles t p.0; around = p.1 }

  idle_by : (o : Option TileState)
      → (option_and_then (λ (tile : TileState). option_map with_tile (tile_step d t tile s.around a attempt.choice)) o ≡ None)
      ↔ (option_and_then (granted s.around (wiring_at d.shape attempt.agent)) (option_and_then (λ (tile : TileState). tile_wants d t tile a attempt.choice) o)
      ≡ None)
  idle_by None = (λ h. refl, λ h. refl)
  idle_by (Some tile) =
      let both = tile_idle d t tile s.around attempt.choice a in (
        λ h. both.0 (option_map_none with_tile (tile_step d t tile s.around a attempt.choice) h),
        λ h. map_none with_tile (tile_step d t tile s.around a attempt.choice) (both.1 h),
      )

  -- an attempt isn't enabled where it wants nothing, or what it wants isn't granted
  pub step_idle : (step d s attempt ≡ None) ↔ (option_and_then (granted s.around (wiring_at d.shape attempt.agent)) (wanted d s attempt) ≡ None)
  step_idle = idle_by (slice_get s.tiles t)

  -- an enabled step: its tile, and what the tile's step did
  pub record Stepped (next : State) : Type 0 where
    pub tile : TileState
    pub p : TileState × Surroundings
    pub here : slice_get s.tiles t ≡ Some tile
    pub alone : Alone d t tile s.around attempt.choice a p
    pub is : with_tile p ≡ next

  stepped_at : (o : Option TileState) → slice_get s.tiles t ≡ o → (next : State) → step d s attempt ≡ Some next → Stepped next
  stepped_at None e next is = let no : ◌≡◌ {A = Option State} None (Some next) = sym (step_of_none d s attempt e) ∙ is in absurd (cc)
  stepped_at (Some tile) e next is =
      let m = option_map_some with_tile (tile_step d t tile s.around a attempt.choice) next (sym (step_of_tile d s attempt tile e) ∙ is) in
      record { tile = tile; p = m.0; here = e; alone = alone d t tile s.around attempt.choice a m.0 m.1; is = m.2 }

  pub stepped : (next : State) → step d s attempt ≡ Some next → Stepped next
  stepped next is = stepped_at (slice_get s.tiles t) refl next is

-- two agents of one tile are of two kinds
kinds_differ : (m n : ℕ) → m ≢ n → agent_tile m ≡ agent_tile n → agent_kind m ≢ agent_kind n
kinds_differ m n ne same e = ne (number_is m (agent_tile n) (agent_kind n) same e ∙ number_of_agent n)

-- after a step every other agent wants what it did
module _ (d : Design) (s : State) (attempt : Step) (next : State) (other : Step) (x : Stepped d s attempt next) where
  abbrev wanted_by : Option TileState → Option Want
  wanted_by o = option_and_then (λ (tile : TileState). tile_wants d (agent_tile other.agent) tile (agent_kind other.agent) other.choice) o

  wanted_next : other.agent ≢ attempt.agent
      → wanted_by (slice_get (slice_set s.tiles (agent_tile attempt.agent) x.p.0) (agent_tile other.agent))
      ≡ wanted_by (slice_get s.tiles (agent_tile other.agent))
  wanted_next ne = elim (cases_eq (agent_tile other.agent) (agent_tile attempt.agent)) [
    | inl same ↦
        let t : ℕ = agent_tile attempt.agent in
        ap (λ (k : ℕ). wanted_by (slice_get (slice_set s.tiles t x.p.0) k)) same
        ∙ (ap wanted_by (get_set_same s.tiles t x.p.0 (slice_get_within s.tiles t x.tile x.here))
        ∙ (ap (λ (k : ℕ). tile_wants d k x.p.0 (agent_kind other.agent) other.choice) same
        ∙ ((x.alone).others (agent_kind other.agent) other.choice (kinds_differ other.agent attempt.agent ne same)
        ∙ (ap (λ (k : ℕ). tile_wants d k x.tile (agent_kind other.agent) other.choice) (sym same)
        ∙ (ap wanted_by (sym x.here)
        ∙ ap (λ (k : ℕ). wanted_by (slice_get s.tiles k)) (sym same))))))
    | inr away ↦ ap wanted_by (get_set_other s.tiles (agent_tile attempt.agent) (agent_tile other.agent) x.p.0 away)
  ]

  pub wants_kept : other.agent ≢ attempt.agent → wanted d next other ≡ wanted d s other
  wants_kept ne = ap (λ (z : State). wanted d z other) (sym x.is) ∙ wanted_next ne
