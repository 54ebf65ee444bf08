-- The choices of agents that may be enabled, and those that a move can enable.
use Rattle.std.specs.Prelude.{◌≡◌, ℕ, ◌==◌, ◌&&◌, ◌||◌, Bool, true, false, None}
use Rattle.std.specs.List.{list_any}
use Rattle.torus.specs.declared.step.Choice.{Choice}
use Rattle.torus.specs.declared.step.Choice.TheVariants.{Take, Credit, Look, TakeFrom, CreditOf}
use Rattle.flit_buffer.specs.declared.word_op.WordOp.{WordOp}
use Rattle.flit_buffer.specs.declared.word_op.WordOp.TheVariants.{Store, Swap, Add}
use Rattle.core_laws.specs.Tile.{Design}
use Rattle.core_laws.specs.Core.{State, step}
use Rattle.core_laws.specs.Operations.{woken_by_operation}

-- whether an operation can enable a choice like this of another agent: a swap one that looks for a
-- credit, a store one that takes a flit, and an addition a look at the done word (Dally and Towles,
-- chapter 13)
abbrev pub can_enable : WordOp → Choice → Bool
can_enable (Swap word v) Credit = true
can_enable (Swap word v) (CreditOf o) = true
can_enable (Store word v) Take = true
can_enable (Store word v) (TakeFrom i) = true
can_enable (Add word v) Look = true
can_enable _ _ = false

-- of each agent, no choice is enabled that doesn't count as awake (this project's own format)
abbrev pub OtherChoicesSleep : Design → State → (ℕ → Choice → Bool) → Type 0
OtherChoicesSleep d s awake = (agent : ℕ) (choice : Choice) → awake agent choice ≡ false
    → step d s (record { agent = agent; choice = choice }) ≡ None

-- after a move of an agent by an operation: all choices of its own are awake too, and of the agents
-- that the operation wakes those that it can enable (this project's own format)
abbrev pub choices_woken : Design → ℕ → WordOp → (ℕ → Choice → Bool) → ℕ → Choice → Bool
choices_woken d mover op awake agent choice = awake agent choice || ((agent == mover)
    || (can_enable op choice && list_any (λ k. k == agent) (woken_by_operation d op)))
