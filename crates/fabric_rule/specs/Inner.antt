-- Choices of a seat's agents that no other seat can enable.
use Rattle.std.specs.Prelude.{ℕ, slice_index, List}
use Rattle.torus.specs.Shape.{Shape}
use Rattle.torus.specs.declared.step.Choice.{Choice}
use Rattle.torus.specs.declared.step.Choice.TheVariants.{Send, Take, Credit, Done, Look, Serve, TakeFrom, Put, CreditOf}
use Rattle.tile.specs.Agents.{agent_tile}
use Rattle.core_laws.specs.Waking.{receiver_of, sender_of, wiring_at}
use Rattle.fabric_rule.specs.Groups.{In}

-- the tile of whoever sends on the channel at an input of an agent
abbrev pub tile_before : Shape → ℕ → ℕ → ℕ
tile_before s agent i = agent_tile (sender_of s (slice_index (wiring_at s agent).inputs i))

-- the tile of whoever receives from the channel at an output of an agent
abbrev pub tile_behind : Shape → ℕ → ℕ → ℕ
tile_behind s agent o = agent_tile (receiver_of s (slice_index (wiring_at s agent).outputs o))

-- Only agents of these groups can enable the choice of an agent of theirs: the agent at the other
-- end of the channel at which it looks is of the groups, or it looks at no channel. A look at the
-- done word is no such choice, since every processor changes that word (this project's own format).
abbrev pub IsInner : Shape → List (List ℕ) → ℕ → Choice → Type 0
IsInner s gs agent Take = In gs (tile_before s agent 0)
IsInner s gs agent (TakeFrom i) = In gs (tile_before s agent i)
IsInner s gs agent Credit = In gs (tile_behind s agent 0)
IsInner s gs agent (CreditOf o) = In gs (tile_behind s agent o)
IsInner s gs agent Look = ⊥
IsInner s gs agent Send = Unit {0}
IsInner s gs agent (Put i) = Unit {0}
IsInner s gs agent Done = Unit {0}
IsInner s gs agent Serve = Unit {0}
