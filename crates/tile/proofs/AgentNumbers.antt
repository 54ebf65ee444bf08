-- The agents of a tile, and their numbers.
use Rattle.std.proofs.Common.{◌≡◌, ◌≢◌, ℕ, zero, suc, ◌+◌, ◌*◌, ◌/◌, ◌%◌, ◌<◌, refl, sym, ◌∙◌, ap, arith}
use Rattle.std.proofs.Math.Nat.{div-add-mod, mod-lt}
use Rattle.tile.specs.declared.agent.Agent.{Agent}
use Rattle.tile.specs.declared.agent.Agent.TheVariants.{Processor, Router, Bank}
use Rattle.tile.specs.Agents.{agent_number, agent_numbered, agent_tile, agent_kind}

-- the third agent of a tile is its bank
pub third_agent : (k : ℕ) → k ≢ 0 → k ≢ 1 → agent_numbered k ≡ Bank
third_agent zero a b = absurd (a refl)
third_agent (suc zero) a b = absurd (b refl)
third_agent (suc (suc k)) a b = refl

-- the number of an agent of a tile tells the tile, and which of its agents it is
pub tile_of_number : (t : ℕ) (a : Agent) → agent_tile (agent_number t a) ≡ t
tile_of_number t Processor = let e : (3 * t) / 3 ≡ t = omega arith in e
tile_of_number t Router = let e : (3 * t + 1) / 3 ≡ t = omega arith in e
tile_of_number t Bank = let e : (3 * t + 2) / 3 ≡ t = omega arith in e

pub kind_of_number : (t : ℕ) (a : Agent) → agent_kind (agent_number t a) ≡ a
kind_of_number t Processor = let e : (3 * t) % 3 ≡ 0 = omega arith in ap agent_numbered e
kind_of_number t Router = let e : (3 * t + 1) % 3 ≡ 1 = omega arith in ap agent_numbered e
kind_of_number t Bank = let e : (3 * t + 2) % 3 ≡ 2 = omega arith in ap agent_numbered e

-- each agent is the one that it is of its tile
number_at : (agent k : ℕ) → k < 3 → agent / 3 * 3 + k ≡ agent → agent_number (agent / 3) (agent_numbered k) ≡ agent
number_at agent zero low is = let e : 3 * (agent / 3) ≡ agent = omega (arith, is) in e
number_at agent (suc zero) low is = let e : 3 * (agent / 3) + 1 ≡ agent = omega (arith, is) in e
number_at agent (suc (suc zero)) low is = let e : 3 * (agent / 3) + 2 ≡ agent = omega (arith, is) in e
number_at agent (suc (suc (suc k))) low is = absurd (omega arith)

pub number_of_agent : (agent : ℕ) → agent_number (agent_tile agent) (agent_kind agent) ≡ agent
number_of_agent agent =
    number_at agent (agent % 3) (mod-lt agent (omega arith)) (let e : agent / 3 * 3 + agent % 3 ≡ agent = omega (arith, div-add-mod agent 3) in e)

-- so one that is of a tile, and is this of its agents, has that number
pub number_is : (agent t : ℕ) (a : Agent) → agent_tile agent ≡ t → agent_kind agent ≡ a → agent ≡ agent_number t a
number_is agent t a here is = sym (number_of_agent agent) ∙ (ap (λ (u : ℕ). agent_number u (agent_kind agent)) here ∙ ap (agent_number t) is)

-- the tiles of so many have three times as many agents
pub number_low : (t tiles : ℕ) (a : Agent) → t < tiles → agent_number t a < 3 * tiles
number_low t tiles Processor low = omega (arith, low)
number_low t tiles Router low = omega (arith, low)
number_low t tiles Bank low = omega (arith, low)
