-- What a list of attempts does of what is still to do.
use Rattle.std.specs.Prelude.{ℕ, ◌+◌, List, [], ◌∷◌, Option, Some, None}
use Rattle.torus.specs.declared.step.Step.{Step}
use Rattle.tile.specs.Tile.{Design}
use Rattle.tile.specs.Agents.{agent_kind}
use Rattle.core_laws.specs.Core.{State, step, next}
use Rattle.fair_rounds.specs.Charges.{charge}

-- so much, where there is a next state
abbrev pub cost_if_made : Option State → ℕ → ℕ
cost_if_made None cost = 0
cost_if_made (Some s) cost = cost

-- what an attempt does: nothing where it isn't enabled
abbrev pub cost : Design → State → Step → ℕ
cost d s a = cost_if_made (step d s a) (charge (agent_kind a.agent) a.choice)

-- what a list of them does, one after the other
abbrev pub cost_of : Design → State → List Step → ℕ
cost_of d s [] = 0
cost_of d s (a ∷ steps) = cost d s a + cost_of d (next d s a) steps
