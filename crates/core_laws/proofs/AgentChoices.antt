-- An enabled attempt is of a choice that its agent has.
use Rattle.std.proofs.Common.{◌≡◌, ℕ, zero, suc, Bool, true, false, Option, Some, None, refl, sym, ◌∙◌, slice_get}
use Rattle.std.specs.Prelude.{nat_lt, slice_set}
use Rattle.std.proofs.lemmas.Option.{option_and_then_some}
use Rattle.torus.specs.Shape.{Shape, tiles_of, dims_of}
use Rattle.torus.specs.Choices.{has_choice as numbered_has}
use Rattle.torus.specs.declared.step.Step.{Step}
use Rattle.torus.specs.declared.step.Choice.{Choice}
use Rattle.torus.specs.declared.step.Choice.TheVariants as choice
use Rattle.flit_buffer.specs.declared.want.Want.{Want}
use Rattle.flit_buffer.specs.declared.want.Want.TheVariants as want
use Rattle.flit_buffer.specs.Surroundings.{Surroundings}
use Rattle.channel_number.specs.Ports.{port_count}
use Rattle.router.specs.Table.{RouterState, latch_of, wants_to_take, wants_to_put, router_wants, router_after}
use Rattle.router.specs.Beginning.{router_wiring}
use Rattle.one_order.specs.ProcessorTable.{ProcessorState, processor_wants, processor_after}
use Rattle.home_bank.specs.BankTable.{BankState, bank_wants, bank_after}
use Rattle.tile.specs.Wiring.{processor_wiring, bank_wiring}
use Rattle.tile.specs.declared.agent.Agent.{Agent}
use Rattle.tile.specs.declared.agent.Agent.TheVariants.{Processor, Router, Bank}
use Rattle.tile.specs.Tile.{Design, TileState, tile_step}
use Rattle.tile.specs.Agents.{agent_numbered, agent_kind, agent_tile}
use Rattle.tile.specs.Choices.{has_choice}
use Rattle.core_laws.specs.Core.{State, step}
use Rattle.core_laws.proofs.AgentSteps.{did, option_map_some}
use Rattle.core_laws.proofs.RouterChoices.{if_true}

processor_has : (ports tiles words t : ℕ) (p : ProcessorState) (c : Choice) (w : Want) → processor_wants tiles words t p c ≡ Some w
    → has_choice ports Processor c ≡ true
processor_has ports tiles words t p choice.Send w h = refl
processor_has ports tiles words t p choice.Take w h = refl
processor_has ports tiles words t p choice.Credit w h = refl
processor_has ports tiles words t p choice.Done w h = refl
processor_has ports tiles words t p choice.Look w h = refl
processor_has ports tiles words t p choice.Serve w h = absurd (cc)
processor_has ports tiles words t p (choice.TakeFrom i) w h = absurd (cc)
processor_has ports tiles words t p (choice.Put i) w h = absurd (cc)
processor_has ports tiles words t p (choice.CreditOf i) w h = absurd (cc)

bank_has : (ports tiles t : ℕ) (b : BankState) (c : Choice) (w : Want) → bank_wants tiles t b c ≡ Some w → has_choice ports Bank c ≡ true
bank_has ports tiles t b choice.Send w h = refl
bank_has ports tiles t b choice.Take w h = refl
bank_has ports tiles t b choice.Credit w h = refl
bank_has ports tiles t b choice.Serve w h = refl
bank_has ports tiles t b choice.Done w h = absurd (cc)
bank_has ports tiles t b choice.Look w h = absurd (cc)
bank_has ports tiles t b (choice.TakeFrom i) w h = absurd (cc)
bank_has ports tiles t b (choice.Put i) w h = absurd (cc)
bank_has ports tiles t b (choice.CreditOf i) w h = absurd (cc)

router_has : (s : Shape) (t : ℕ) (r : RouterState) (c : Choice) (w : Want) → router_wants s t r c ≡ Some w → has_choice (port_count (dims_of s)) Router c ≡ true
router_has s t r (choice.TakeFrom i) w h = if_true (nat_lt i (port_count (dims_of s))) (wants_to_take s t i (latch_of r i)) w h
router_has s t r (choice.Put i) w h = if_true (nat_lt i (port_count (dims_of s))) (wants_to_put s t r i (latch_of r i)) w h
router_has s t r (choice.CreditOf o) w h = if_true (nat_lt o (port_count (dims_of s))) (Some (want.Credit o)) w h
router_has s t r choice.Send w h = absurd (cc)
router_has s t r choice.Take w h = absurd (cc)
router_has s t r choice.Credit w h = absurd (cc)
router_has s t r choice.Serve w h = absurd (cc)
router_has s t r choice.Done w h = absurd (cc)
router_has s t r choice.Look w h = absurd (cc)

module _ (d : Design) (t : ℕ) (tile : TileState) (around : Surroundings) (c : Choice) (after : TileState × Surroundings) where
  tile_has : (kind : Agent) → tile_step d t tile around kind c ≡ Some after → has_choice (port_count (dims_of d.shape)) kind c ≡ true
  tile_has Processor h =
      let f = option_map_some (λ (p : ProcessorState × Surroundings). (record tile { processor = p.0 }, p.1)) _ after h in
      let x = did (processor_wants (tiles_of d.shape) d.words t) (processor_after (tiles_of d.shape) d.words t) d.depth (processor_wiring d.shape t)
      tile.processor around c f.0.0 f.0.1 f.1 in
      processor_has (port_count (dims_of d.shape)) (tiles_of d.shape) d.words t tile.processor c x.want x.wanted
  tile_has Router h =
      let f = option_map_some (λ (p : RouterState × Surroundings). (record tile { router = p.0 }, p.1)) _ after h in
      let x = did (router_wants d.shape t) router_after d.depth (router_wiring d.shape t) tile.router around c f.0.0 f.0.1 f.1 in
      router_has d.shape t tile.router c x.want x.wanted
  tile_has Bank h =
      let f = option_map_some (λ (p : BankState × Surroundings). (record tile { bank = p.0 }, p.1)) _ after h in
      let x = did (bank_wants (tiles_of d.shape) t) (bank_after (tiles_of d.shape) t) d.depth (bank_wiring d.shape t) tile.bank around c f.0.0 f.0.1 f.1 in
      bank_has (port_count (dims_of d.shape)) (tiles_of d.shape) t tile.bank c x.want x.wanted

-- An enabled attempt is of a choice of its agent.
pub own_choice : (d : Design) (s : State) (attempt : Step) (next : State) → step d s attempt ≡ Some next
    → has_choice (port_count (dims_of d.shape)) (agent_kind attempt.agent) attempt.choice ≡ true
own_choice d s attempt next h = option_and_then_some _ (slice_get s.tiles (agent_tile attempt.agent)) next h (λ tile there f.
    let k = option_map_some (λ (p : TileState × Surroundings). record { tiles = slice_set s.tiles (agent_tile attempt.agent) p.0; around = p.1 }) _ next f in
    tile_has d (agent_tile attempt.agent) tile s.around attempt.choice k.0 (agent_kind attempt.agent) k.1)

none_where : (o : Option State) (b : Bool) → ((next : State) → o ≡ Some next → b ≡ true) → b ≡ false → o ≡ None
none_where None b has lacks = refl
none_where (Some next) b has lacks = let z : ◌≡◌ {A = Bool} true false = sym (has next refl) ∙ lacks in absurd (cc)

-- An attempt of a choice that its agent doesn't have isn't enabled.
pub other_choice : (d : Design) (s : State) (attempt : Step)
    → has_choice (port_count (dims_of d.shape)) (agent_kind attempt.agent) attempt.choice ≡ false → step d s attempt ≡ None
other_choice d s attempt lacks = none_where (step d s attempt) _ (own_choice d s attempt) lacks

-- the agent of a number has the choices of that number
pub numbered : (ports kind : ℕ) (c : Choice) → has_choice ports (agent_numbered kind) c ≡ numbered_has ports kind c
numbered ports zero c = refl
numbered ports (suc zero) c = refl
numbered ports (suc (suc k)) c = refl
