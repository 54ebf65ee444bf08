-- Which agents a move can wake.
use Rattle.std.specs.Prelude.{◌≡◌, ℕ, ◌==◌, Bool, if◌then◌else◌, List, [], ◌∷◌, map}
use Rattle.std.specs.Prelude.{slice_index, slice_get, Option, Some, None, option_and_then}
use Rattle.std.specs.List.{list_any, range_with_len}
use Rattle.torus.specs.Shape.{Shape, tiles_of}
use Rattle.torus.specs.declared.shape.Class.{Class}
use Rattle.torus.specs.declared.shape.Class.TheVariants as class
use Rattle.torus.specs.declared.step.Step.{Step}
use Rattle.channel_number.specs.Order.{channel_at}
use Rattle.channel_number.specs.Ports.{is_injection, is_ejection, input_router, output_router}
use Rattle.flit_buffer.specs.Surroundings.{Wiring}
use Rattle.flit_buffer.specs.declared.want.Want.{Want}
use Rattle.flit_buffer.specs.declared.want.Want.TheVariants.{Take, Put, Credit, Access, Await}
use Rattle.core_laws.specs.Agent.{Agent}
use Rattle.core_laws.specs.Agent.TheVariants.{Processor, Router, Bank}
use Rattle.core_laws.specs.Tile.{Design}
use Rattle.core_laws.specs.Agents.{wiring_of, tile_wants, agent_number, agent_kind, agent_tile}
use Rattle.core_laws.specs.Core.{State}

-- the agent that takes the packets of a class out of the network, and the one that sends them into
-- it (Dally and Towles, chapter 20)
abbrev pub taker : Class → Agent
taker class.Request = Bank
taker class.Reply = Processor

abbrev pub speaker : Class → Agent
speaker class.Request = Processor
speaker class.Reply = Bank

-- the number of the agent at the receiving end of channel x (this project's own format)
abbrev pub receiver_of : Shape → ℕ → ℕ
receiver_of s x =
    if is_ejection (channel_at s x).kind
    then agent_number (channel_at s x).tile (taker (channel_at s x).class)
    else agent_number (input_router s x) Router

-- the number of the agent at the sending end of channel x (this project's own format)
abbrev pub sender_of : Shape → ℕ → ℕ
sender_of s x =
    if is_injection (channel_at s x).kind
    then agent_number (channel_at s x).tile (speaker (channel_at s x).class)
    else agent_number (output_router s x) Router

-- the channels of the agent of a number
abbrev pub wiring_at : Shape → ℕ → Wiring
wiring_at s agent = wiring_of s (agent_tile agent) (agent_kind agent)

-- what an attempt wants in a state; None where the agent hasn't the choice or its own part of the
-- condition fails
abbrev pub wanted : Design → State → Step → Option Want
wanted d s attempt = option_and_then (λ tile.
    tile_wants d (agent_tile attempt.agent) tile (agent_kind attempt.agent) attempt.choice)
    (slice_get s.tiles (agent_tile attempt.agent))

-- what one agent's granted want changes another agent's want looks at: a take returns the credit
-- that the sender looks for, a put brings the flit that the receiver looks for, and a change of a
-- word can bring the value that is awaited (Dally and Towles, chapter 13)
abbrev pub Meets : Wiring → Want → Wiring → Want → Type 0
Meets v (Take i) w (Credit o) = slice_index v.inputs i ≡ slice_index w.outputs o
Meets v (Put o flit) w (Take i) = slice_index v.outputs o ≡ slice_index w.inputs i
Meets v (Access word op) w (Await other value) = word ≡ other
Meets v _ w _ = ⊥

-- an attempt changes what another looks at (this project's own format)
pub record Disturbs (d : Design) (s : State) (attempt other : Step) : Type 0 where
  pub want : Want
  pub wants : wanted d s attempt ≡ Some want
  pub sought : Want
  pub seeks : wanted d s other ≡ Some sought
  pub meets : Meets (wiring_at d.shape attempt.agent) want (wiring_at d.shape other.agent) sought

-- the processors of so many tiles
abbrev pub processors : ℕ → List ℕ
processors tiles = map (λ t. agent_number t Processor) (range_with_len 0 tiles)

-- the other agents that a granted want wakes: a take the sender, a put the receiver, a change of
-- the done word the processors, and any other want none (this project's own format)
abbrev pub woken_by : Design → Wiring → Option Want → List ℕ
woken_by d v None = []
woken_by d v (Some (Take i)) = sender_of d.shape (slice_index v.inputs i) ∷ []
woken_by d v (Some (Put o flit)) = receiver_of d.shape (slice_index v.outputs o) ∷ []
woken_by d v (Some (Credit o)) = []
woken_by d v (Some (Access word op)) = if word == d.words then processors (tiles_of d.shape) else []
woken_by d v (Some (Await word value)) = []

-- the agents that an enabled attempt wakes: its own, and those that its want wakes (this project's
-- own format)
abbrev pub woken : Design → State → Step → List ℕ
woken d s attempt = attempt.agent
    ∷ woken_by d (wiring_at d.shape attempt.agent) (wanted d s attempt)

-- whether an attempt wakes an agent
abbrev pub is_woken : Design → State → Step → ℕ → Bool
is_woken d s attempt agent = list_any (λ k. k == agent) (woken d s attempt)
