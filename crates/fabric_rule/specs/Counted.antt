-- What a seat counts of its choices, and when that is right.
use Rattle.std.specs.Prelude.{◌≡◌, ◌≢◌, ◌<◌, ℕ, List, false}
use Rattle.torus.specs.declared.step.Step.{Step}
use Rattle.torus.specs.declared.step.Choice.{Choice}
use Rattle.torus.specs.declared.step.Choice.TheVariants.{Take, Look, TakeFrom, Put, CreditOf}
use Rattle.tile.specs.declared.agent.Agent.TheVariants.{Router}
use Rattle.tile.specs.Agents.{agent_kind, agent_tile}
use Rattle.core_laws.specs.Core.{Load, design_of}
use Rattle.machine_parts.specs.Awake.{Awake, is_choice_awake, choice_rested}
use Rattle.machine_parts.specs.Ports.{AwakePorts, flags_of, is_raised, take_rested, put_rested, credit_rested}
use Rattle.fabric_rule.specs.Border.{TakesInside, CreditsInside}
use Rattle.fabric_rule.specs.Sleeping.{Sleeps}

-- which choices count as awake, by agent and by port, and the ports that never count as asleep
pub record Counted : Type 0 where
  pub awake : Awake
  pub ports : AwakePorts
  pub border_takes : List ℕ
  pub border_credits : List ℕ

-- what counts as asleep is, after a run, for a seat that has the tiles of these groups (this
-- project's own format)
pub record AreRight (load : Load) (run : List Step) (gs : List (List ℕ)) (c : Counted)
    : Type 0 where
  pub built : c.awake.design ≡ design_of load
  pub routed : c.ports.design ≡ design_of load
  pub sleep : Sleeps load run gs (is_choice_awake c.awake) (flags_of c.ports)
  pub takes : TakesInside load.shape gs c.border_takes
  pub credits : CreditsInside load.shape gs c.border_credits

-- an attempt of a processor or a bank in vain changes this alone: its choice counts as asleep, but for
-- a look at the done word
pub record ChoiceFalls (agent : ℕ) (choice : Choice) (old new : Counted) : Type 0 where
  pub falls : choice ≢ Look → (k : ℕ) (c : Choice) → is_choice_awake new.awake k c
      ≡ choice_rested agent choice (is_choice_awake old.awake) k c
  pub look : choice ≡ Look → new.awake ≡ old.awake
  pub ports : new.ports ≡ old.ports

-- an attempt of a router in vain, at a port of those that there may be, changes the flags so: its take,
-- put or credit counts as asleep, where no other seat can disturb it (this project's own format)
abbrev pub PortFalls : ℕ → Choice → Counted → Counted → Type 0
PortFalls t (TakeFrom i) old new = i < 31 → is_raised old.border_takes t i ≡ false
    → flags_of new.ports ≡ take_rested t i (flags_of old.ports)
PortFalls t (Put i) old new = flags_of new.ports ≡ put_rested t i (flags_of old.ports)
PortFalls t (CreditOf o) old new = o < 31 → is_raised old.border_credits t o ≡ false
    → flags_of new.ports ≡ credit_rested t o (flags_of old.ports)
PortFalls t _ old new = Unit {0}

-- what an attempt in vain changes, by the agent of the step
abbrev pub Falls : Step → Counted → Counted → Type 0
Falls c old new =
    (agent_kind c.agent ≢ Router → ChoiceFalls c.agent c.choice old new)
    × (agent_kind c.agent ≡ Router → PortFalls (agent_tile c.agent) c.choice old new)

-- A choice of an agent of a tile is a take that no other seat can enable: of a processor or a bank, or
-- of a router at an input, of those that there may be, that isn't at the border (this project's own
-- format).
abbrev pub IsInnerTake : Counted → ℕ → Choice → Type 0
IsInnerTake counted t Take = Unit {0}
IsInnerTake counted t (TakeFrom i) = (i < 31) × (is_raised counted.border_takes t i ≡ false)
IsInnerTake counted t _ = ⊥
