-- Which inputs and outputs of routers no other seat can disturb.
use Rattle.std.specs.Prelude.{◌≡◌, ◌≤◌, ◌<◌, ℕ, false, List}
use Rattle.torus.specs.Shape.{Shape}
use Rattle.torus.specs.declared.step.Choice.TheVariants.{TakeFrom, CreditOf}
use Rattle.tile.specs.declared.agent.Agent.TheVariants.{Router}
use Rattle.tile.specs.Agents.{agent_number}
use Rattle.machine_parts.specs.Ports.{is_raised}
use Rattle.fabric_rule.specs.Groups.{In}
use Rattle.fabric_rule.specs.Inner.{IsInner}

-- the tiles from one on, below another, are in these groups
abbrev pub AreOf : List (List ℕ) → ℕ → ℕ → Type 0
AreOf gs first end = (t : ℕ) → first ≤ t → t < end → In gs t

-- each input whose flag is lowered is of a router of the groups, and no agent outside them can
-- enable its take (this project's own format)
abbrev pub TakesInside : Shape → List (List ℕ) → List ℕ → Type 0
TakesInside s gs words = (t i : ℕ) → is_raised words t i ≡ false
    → In gs t × IsInner s gs (agent_number t Router) (TakeFrom i)

-- each output whose flag is lowered is of a router of the groups, and no agent outside them can
-- enable its credit (this project's own format)
abbrev pub CreditsInside : Shape → List (List ℕ) → List ℕ → Type 0
CreditsInside s gs words = (t o : ℕ) → is_raised words t o ≡ false
    → In gs t × IsInner s gs (agent_number t Router) (CreditOf o)
