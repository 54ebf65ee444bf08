-- Each step that is enabled is an attempt of the round.
use Rattle.std.proofs.Common.{◌≡◌, ℕ, ◌<◌, true, List, [], ◌∷◌, length, Option, Some, None, refl, subst, slice_get}
use Rattle.std.specs.Prelude.{option_and_then, option_map, slice_set}
use Rattle.std.proofs.lemmas.Bool.{ltb-true}
use Rattle.std.proofs.lemmas.Option.{slice_get_within}
use Rattle.torus.specs.Shape.{Shape, tiles_of, dims_of}
use Rattle.torus.specs.declared.step.Step.{Step}
use Rattle.torus.specs.declared.step.Choice.{Choice}
use Rattle.torus.specs.declared.step.Choice.TheVariants as choice
use Rattle.channel_number.specs.Ports.{port_count}
use Rattle.core_laws.specs.Rounds.{IsEnabled}
use Rattle.core_laws.proofs.Rounds.{found_enabled, none_enabled}
use Rattle.wormhole.specs.Net.{IsOn}
use Rattle.core_laws.specs.Agent.{Agent}
use Rattle.core_laws.specs.Agent.TheVariants.{Processor, Router, Bank}
use Rattle.core_laws.specs.Tile.{Design, TileState, tile_step}
use Rattle.core_laws.specs.Choices.{has_choice}
use Rattle.core_laws.specs.Agents.{agent_number, agent_kind, agent_tile}
use Rattle.core_laws.proofs.AgentNumbers.{number_of_agent}
use Rattle.core_laws.specs.Core.{Load, State, design_of, step, round}
use Rattle.core_laws.specs.Runs.{IsAcceptedLoad, state_after}
use Rattle.core_laws.proofs.AgentChoices.{own_choice}
use Rattle.core_laws.proofs.EveryRun.{holds_in}
use Rattle.core_laws.specs.ProgressMoves.{enabled_step}
use Rattle.core_laws.proofs.Attempts.{processor_choices, router_choices, bank_choices, processor_on, router_on, bank_on, takes_on, puts_on, credits_on}

module _ (s : Shape) (t : ℕ) (here : t < tiles_of s) where
  -- the choices that an agent has
  processors : (c : Choice) → has_choice (port_count (dims_of s)) Processor c ≡ true → IsOn c (processor_choices s t here)
  processors choice.Send h = ([], choice.Take ∷ choice.Credit ∷ choice.Done ∷ choice.Look ∷ [], refl)
  processors choice.Take h = (choice.Send ∷ [], choice.Credit ∷ choice.Done ∷ choice.Look ∷ [], refl)
  processors choice.Credit h = (choice.Send ∷ choice.Take ∷ [], choice.Done ∷ choice.Look ∷ [], refl)
  processors choice.Done h = (choice.Send ∷ choice.Take ∷ choice.Credit ∷ [], choice.Look ∷ [], refl)
  processors choice.Look h = (choice.Send ∷ choice.Take ∷ choice.Credit ∷ choice.Done ∷ [], [], refl)
  processors choice.Serve h = absurd (cc)
  processors (choice.TakeFrom i) h = absurd (cc)
  processors (choice.Put i) h = absurd (cc)
  processors (choice.CreditOf o) h = absurd (cc)

  routers : (c : Choice) → has_choice (port_count (dims_of s)) Router c ≡ true → IsOn c (router_choices s t here)
  routers (choice.TakeFrom i) h = takes_on s t here i (ltb-true i (port_count (dims_of s)) h)
  routers (choice.Put i) h = puts_on s t here i (ltb-true i (port_count (dims_of s)) h)
  routers (choice.CreditOf o) h = credits_on s t here o (ltb-true o (port_count (dims_of s)) h)
  routers choice.Send h = absurd (cc)
  routers choice.Take h = absurd (cc)
  routers choice.Credit h = absurd (cc)
  routers choice.Serve h = absurd (cc)
  routers choice.Done h = absurd (cc)
  routers choice.Look h = absurd (cc)

  banks : (c : Choice) → has_choice (port_count (dims_of s)) Bank c ≡ true → IsOn c (bank_choices s t here)
  banks choice.Take h = ([], choice.Serve ∷ choice.Send ∷ choice.Credit ∷ [], refl)
  banks choice.Serve h = (choice.Take ∷ [], choice.Send ∷ choice.Credit ∷ [], refl)
  banks choice.Send h = (choice.Take ∷ choice.Serve ∷ [], choice.Credit ∷ [], refl)
  banks choice.Credit h = (choice.Take ∷ choice.Serve ∷ choice.Send ∷ [], [], refl)
  banks choice.Done h = absurd (cc)
  banks choice.Look h = absurd (cc)
  banks (choice.TakeFrom i) h = absurd (cc)
  banks (choice.Put i) h = absurd (cc)
  banks (choice.CreditOf o) h = absurd (cc)

  -- of one of the tile's agents
  by_agent : (a : Agent) (c : Choice) → has_choice (port_count (dims_of s)) a c ≡ true
      → IsOn (record { agent = agent_number t a; choice = c }) (round s)
  by_agent Processor c h = processor_on s t here c (processors c h)
  by_agent Router c h = router_on s t here c (routers c h)
  by_agent Bank c h = bank_on s t here c (banks c h)

-- an attempt of an agent that is there, of a choice that it has
pub on_round : (s : Shape) (a : Step) → agent_tile a.agent < tiles_of s → has_choice (port_count (dims_of s)) (agent_kind a.agent) a.choice ≡ true
    → IsOn a (round s)
on_round s a here has =
    subst (λ (n : ℕ). IsOn (record { agent = n; choice = a.choice }) (round s)) (number_of_agent a.agent)
    (by_agent s (agent_tile a.agent) here (agent_kind a.agent) a.choice has)

-- an enabled step is of a tile that is there
tile_there : (d : Design) (s : State) (a : Step) (after : State) → step d s a ≡ Some after → agent_tile a.agent < length s.tiles
tile_there d s a after enabled = by_tile (slice_get s.tiles (agent_tile a.agent)) refl enabled
  where
    by_tile : (o : Option TileState) → slice_get s.tiles (agent_tile a.agent) ≡ o
        → option_and_then {U = State}
        (λ tile. option_map (λ p. record { tiles = slice_set s.tiles (agent_tile a.agent) p.0; around = p.1 })
        (tile_step d (agent_tile a.agent) tile s.around (agent_kind a.agent) a.choice)) o ≡ Some after
        → agent_tile a.agent < length s.tiles
    by_tile None there h = absurd (cc)
    by_tile (Some tile) there h = slice_get_within s.tiles (agent_tile a.agent) tile there

module _ (l : Load) (ok : IsAcceptedLoad l) (steps : List Step) (n : ℕ) where
  abbrev d : Design
  d = design_of l

  abbrev now : State
  now = state_after l steps n

  -- in every reached state each enabled step is of the round
  pub enabled_on : (a : Step) → IsEnabled (step d) now a → IsOn a (round l.shape)
  enabled_on a at =
      let here : agent_tile a.agent < length now.tiles = tile_there d now a at.0 at.1 in
      on_round l.shape a (subst (λ (k : ℕ). agent_tile a.agent < k) (holds_in l ok steps n).stands.tiles here) (own_choice d now a at.0 at.1)

  -- the first enabled step is enabled; where there is none, no step is
  pub found_is : (a : Step) → enabled_step d now ≡ Some a → IsEnabled (step d) now a
  found_is a found = (found_enabled (step d) now a (round l.shape) found).1

  pub none_is : enabled_step d now ≡ None → (a : Step) → IsEnabled (step d) now a → ⊥
  none_is none a at = none_enabled (step d) now at.0 a (round l.shape) none (enabled_on a at) at.1
