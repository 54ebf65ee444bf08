-- A tile tells its own steps, and doesn't look at a word that it stored over.
use Rattle.std.proofs.Common.{◌≡◌, ◌≢◌, ℕ, ◌==◌, Bool, true, false, Some, None, refl, ap}
use Rattle.std.specs.Prelude.{if◌then◌else◌, option_map}
use Rattle.std.proofs.lemmas.Bool.{ne_eqb}
use Rattle.torus.specs.Shape.{tiles_of}
use Rattle.torus.specs.declared.step.Step.{Step}
use Rattle.torus.specs.declared.step.Choice.{Choice}
use Rattle.flit_buffer.specs.Agent.{Agent as WithPorts}
use Rattle.flit_buffer.specs.declared.word_op.WordOp.TheVariants.{Store}
use Rattle.flit_buffer.proofs.AgentSteps.{stores_blind}
use Rattle.router.specs.Table.{RouterState, router_wants, router_after}
use Rattle.one_order.specs.ProcessorTable.{ProcessorState, processor_wants, processor_after}
use Rattle.home_bank.specs.BankTable.{BankState, bank_wants, bank_after}
use Rattle.tile.specs.declared.agent.Agent.{Agent}
use Rattle.tile.specs.declared.agent.Agent.TheVariants.{Processor, Router, Bank}
use Rattle.tile.specs.Agents.{TilePlace, agent_op, agent_absorbed, tile_next_op, tile_absorbed, agent_kind, agent_tile}

pub no_op : (p : TilePlace) (attempt : Step) → agent_tile attempt.agent ≢ p.tile → tile_next_op p attempt ≡ None
no_op p attempt other =
    ap (λ (b : Bool). if b then agent_op p (agent_kind attempt.agent) attempt.choice else None) (ne_eqb (agent_tile attempt.agent) p.tile other)

pub no_step : (p : TilePlace) (attempt : Step) (found : ℕ) → agent_tile attempt.agent ≢ p.tile → tile_absorbed p attempt found ≡ None
no_step p attempt found other =
    ap (λ (b : Bool). if b then agent_absorbed p (agent_kind attempt.agent) attempt.choice found else None) (ne_eqb (agent_tile attempt.agent) p.tile other)

agent_blind : (p : TilePlace) (a : Agent) (choice : Choice) (word v m n : ℕ) → agent_op p a choice ≡ Some (Store word v)
    → agent_absorbed p a choice m ≡ agent_absorbed p a choice n
agent_blind p Processor choice word v m n e =
    ap (λ o. option_map (λ (x : WithPorts ProcessorState). record p { processor = x }) o)
    (stores_blind (processor_wants (tiles_of p.design.shape) p.design.words p.tile) (processor_after (tiles_of p.design.shape) p.design.words p.tile)
    p.processor choice word v m n e)
agent_blind p Router choice word v m n e =
    ap (λ o. option_map (λ (x : WithPorts RouterState). record p { router = x }) o)
    (stores_blind (router_wants p.design.shape p.tile) router_after p.router choice word v m n e)
agent_blind p Bank choice word v m n e =
    ap (λ o. option_map (λ (x : WithPorts BankState). record p { bank = x }) o)
    (stores_blind (bank_wants (tiles_of p.design.shape) p.tile) (bank_after (tiles_of p.design.shape) p.tile) p.bank choice word v m n e)

blind_by : (b : Bool) (p : TilePlace) (a : Agent) (choice : Choice) (word v m n : ℕ) → (if b then agent_op p a choice else None) ≡ Some (Store word v)
    → (if b then agent_absorbed p a choice m else None) ≡ (if b then agent_absorbed p a choice n else None)
blind_by true p a choice word v m n e = agent_blind p a choice word v m n e
blind_by false p a choice word v m n e = refl

pub blind : (p : TilePlace) (attempt : Step) (word v m n : ℕ) → tile_next_op p attempt ≡ Some (Store word v)
    → tile_absorbed p attempt m ≡ tile_absorbed p attempt n
blind p attempt word v m n e = blind_by (agent_tile attempt.agent == p.tile) p (agent_kind attempt.agent) attempt.choice word v m n e
