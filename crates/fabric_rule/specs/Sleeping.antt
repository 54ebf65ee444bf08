-- Which choices a seat counts as asleep, and when it is right.
use Rattle.std.specs.Prelude.{◌≡◌, ◌≢◌, ℕ, Bool, false, List}
use Rattle.torus.specs.Shape.{Shape}
use Rattle.torus.specs.declared.step.Step.{Step}
use Rattle.torus.specs.declared.step.Choice.{Choice}
use Rattle.torus.specs.declared.step.Choice.TheVariants.{Look, TakeFrom, CreditOf}
use Rattle.tile.specs.declared.agent.Agent.TheVariants.{Router}
use Rattle.tile.specs.Agents.{agent_number, agent_kind, agent_tile}
use Rattle.core_laws.specs.Core.{Load, design_of, after}
use Rattle.core_laws.specs.ChoicesAsleep.{OtherChoicesSleep}
use Rattle.core_laws.specs.Routers.{PortFlags, OtherPortsSleep}
use Rattle.fabric_rule.specs.Groups.{In}
use Rattle.fabric_rule.specs.Inner.{IsInner}

-- only choices of the groups' own processors and banks count as asleep by their agent, and no look
-- at the done word (this project's own format)
abbrev pub RestsInside : List (List ℕ) → (ℕ → Choice → Bool) → Type 0
RestsInside gs awake = (agent : ℕ) (choice : Choice) → awake agent choice ≡ false
    → In gs (agent_tile agent) × (agent_kind agent ≢ Router) × (choice ≢ Look)

-- only takes, puts and credits of the groups' own routers count as asleep by their port that no
-- agent outside the groups can enable; and only latches of these routers count as empty (this
-- project's own format)
pub record PortsRestInside (s : Shape) (gs : List (List ℕ)) (f : PortFlags) : Type 0 where
  pub takes : (t i : ℕ) → f.takes t i ≡ false
      → In gs t × IsInner s gs (agent_number t Router) (TakeFrom i)
  pub puts : (t i : ℕ) → f.puts t i ≡ false → In gs t
  pub credits : (t o : ℕ) → f.credits t o ≡ false
      → In gs t × IsInner s gs (agent_number t Router) (CreditOf o)
  pub full : (t i : ℕ) → f.full t i ≡ false → In gs t

-- After a run no choice is enabled that doesn't count as awake, and no latch holds a flit that
-- doesn't count as full. What counts as asleep or empty is of the groups, and no agent outside them
-- can change it (this project's own format).
pub record Sleeps (load : Load) (run : List Step) (gs : List (List ℕ))
    (awake : ℕ → Choice → Bool) (f : PortFlags) : Type 0 where
  pub choices : OtherChoicesSleep (design_of load) (after load run) awake
  pub inside : RestsInside gs awake
  pub ports : OtherPortsSleep (design_of load) (after load run) f
  pub ports_inside : PortsRestInside load.shape gs f
