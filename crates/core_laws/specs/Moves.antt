-- What a step is of the operations.
use Rattle.std.specs.Prelude.{ℕ, List, [], ◌∷◌, Option, Some, None, option_map, option_and_then, slice_get}
use Rattle.torus.specs.Shape.{tiles_of}
use Rattle.torus.specs.declared.step.Step.{Step}
use Rattle.torus.specs.declared.step.Choice.{Choice}
use Rattle.torus.specs.declared.step.Choice.TheVariants as choice
use Rattle.packet.specs.declared.kinds.Operation.{Operation}
use Rattle.packet.specs.declared.kinds.Packet.TheVariants as packet
use Rattle.packet.specs.declared.assembler.Offered.{Offered}
use Rattle.packet.specs.declared.assembler.Offered.TheVariants.{Whole}
use Rattle.flit_buffer.specs.declared.want.Want.{Want}
use Rattle.flit_buffer.specs.Surroundings.{Surroundings, Wiring, granted}
use Rattle.one_order.specs.ProcessorRecord.{ready}
use Rattle.one_order.specs.Flight.{Move, Sends, Serves, Takes}
use Rattle.packet.specs.Flits.{offered}
use Rattle.one_order.specs.ProcessorTable.{ProcessorState, processor_wants}
use Rattle.home_bank.specs.BankTable.{BankState, bank_wants}
use Rattle.tile.specs.Wiring.{processor_wiring, bank_wiring}
use Rattle.tile.specs.declared.agent.Agent.{Agent}
use Rattle.tile.specs.declared.agent.Agent.TheVariants.{Processor, Router, Bank}
use Rattle.tile.specs.Tile.{Design, TileState}
use Rattle.tile.specs.Agents.{agent_kind, agent_tile}
use Rattle.core_laws.specs.Core.{State}

-- what an agent learns by a choice; None where it isn't enabled
abbrev pub learned_by : {S : Type 0} → (S → Choice → Option Want) → Wiring → S → Surroundings
    → Choice → Option ℕ
learned_by wants wiring state around choice =
    option_and_then (granted around wiring) (wants state choice)

-- the move of a flit sent: with no request in course it is a head, and an issue
abbrev pub issue_of : ℕ → List ℕ → Option (ℕ × Operation) → Option Move
issue_of t [] next = option_map (λ f. Sends t f.0 f.1) next
issue_of t (flit ∷ flits) next = None

-- the move of a flit taken: one that makes a reply whole is an answer
abbrev pub answer_by : Offered → Option Move
answer_by (Whole (packet.Response r)) = Some (Takes r)
answer_by _ = None

-- the move of a processor's choice, with what it learns
abbrev pub processor_move : ℕ → ProcessorState → Choice → ℕ → Option Move
processor_move t p choice.Send learned = issue_of t p.to_put (ready p.operations)
processor_move t p choice.Take flit = answer_by (offered p.so_far flit)
processor_move t p _ learned = None

-- the move of a bank's choice: a service (the linearization point, Herlihy and Wing)
abbrev pub bank_move : BankState → Choice → ℕ → Option Move
bank_move b choice.Serve learned = option_map (λ r. Serves r) b.waiting
bank_move b _ learned = None

-- the move of a choice of one of a tile's agents
abbrev pub tile_move : Design → ℕ → TileState → Surroundings → Agent → Choice → Option Move
tile_move d t tile around Processor choice =
    option_and_then (processor_move t tile.processor choice)
    (learned_by (processor_wants (tiles_of d.shape) d.words t) (processor_wiring d.shape t)
    tile.processor around choice)
tile_move d t tile around Router choice = None
tile_move d t tile around Bank choice = option_and_then (bank_move tile.bank choice)
    (learned_by (bank_wants (tiles_of d.shape) t) (bank_wiring d.shape t) tile.bank around choice)

-- what a step is of the operations: an issue, a service, an answer, or nothing
abbrev pub move_of : Design → State → Step → Option Move
move_of d s attempt = option_and_then (λ tile.
    tile_move d (agent_tile attempt.agent) tile s.around (agent_kind attempt.agent)
    attempt.choice)
    (slice_get s.tiles (agent_tile attempt.agent))
