-- Turns of agents in a round: one that is asleep changes nothing, and who falls asleep.
use Rattle.std.proofs.Common.{◌≡◌, ℕ, ◌+◌, ◌*◌, Bool, true, false, List, [], ◌∷◌, Option, Some, None, refl, sym, ◌∙◌, ap, subst, arith}
use Rattle.std.specs.Prelude.{◌||◌, is_some}
use Rattle.std.specs.List.{list_any}
use Rattle.torus.specs.Shape.{Shape, dims_of}
use Rattle.torus.specs.declared.step.Step.{Step}
use Rattle.torus.specs.declared.step.Choice.{Choice}
use Rattle.channel_number.specs.Ports.{port_count}
use Rattle.machine_parts.specs.Rounds.{one_if_moved, moves_in, or_same}
use Rattle.tile.specs.declared.agent.Agent.{Agent}
use Rattle.tile.specs.declared.agent.Agent.TheVariants.{Router}
use Rattle.tile.specs.Tile.{Design}
use Rattle.tile.specs.Agents.{agent_kind}
use Rattle.tile.specs.Choices.{has_choice}
use Rattle.tile.proofs.AgentNumbers.{kind_of_number}
use Rattle.machine_parts.specs.Core.{State, design_of, step, or_same as state_or, after, attempts_of}
use Rattle.machine_parts.specs.Machine.{Core, IsAfter, built_to, event_in, core_with, core_next, core_after}
use Rattle.machine_parts.proofs.Moves.{left_after}
use Rattle.machine_parts.specs.Awake.{Awake, is_awake, is_choice_awake, rested, choice_rested}
use Rattle.machine_parts.specs.Sleep.{IsAsleep, choices_of, attempts_at, has_moved}
use Rattle.machine_parts.specs.ChoicesAsleep.{OtherChoicesSleep}
use Rattle.machine_parts.proofs.Sleepers.{falls, same_machine}
use Rattle.machine_parts.proofs.KeptSleepers.{rests, agents_sleep, choice_rests}
use Rattle.machine_core.specs.declared.machine.Machine.TheInside.{Inside}
use Rattle.machine_core.specs.Inside.{core_of, IsMachine}
use Rattle.torus.specs.Choices.{router_choices}
use Rattle.machine_core.proofs.Fields.{with_parts}
use Rattle.machine_core.proofs.Standing.{design_is, state_is}
use Rattle.machine_core.proofs.Skips.{IsIdle, idle_here, idle_there}

-- a router's choices are those of a round
pub of_router : (s : Shape) (t ports : ℕ) → ports ≡ port_count (dims_of s) → attempts_of (3 * t + 1) (router_choices ports) ≡ attempts_at s (3 * t + 1)
of_router s t ports all =
    ap (λ (n : ℕ). attempts_of (3 * t + 1) (router_choices n)) all
    ∙ ap (λ (a : Agent). attempts_of (3 * t + 1) (choices_of (port_count (dims_of s)) a)) (sym (kind_of_number t Router))

-- attempts of which none is enabled have not moved
none_moved : (d : Design) (s : State) (xs : List Step) → moves_in (step d) s xs ≡ 0 → has_moved d s xs ≡ false
none_moved d s [] h = refl
none_moved d s (x ∷ xs) h = by_step (step d s x) (none_moved d s xs) h
  where
    by_step : (o : Option State) → (moves_in (step d) s xs ≡ 0 → has_moved d s xs ≡ false) → one_if_moved o + moves_in (step d) (or_same s o) xs ≡ 0
        → (is_some o || has_moved d (state_or s o) xs) ≡ false
    by_step None rest h = rest (omega (arith, h))
    by_step (Some t) rest h = absurd (omega (arith, h))

module _ {A : Type 0} (a : Inside A) (is : IsMachine a) where
  -- an agent that doesn't count as awake is asleep
  asleep_in : (agent : ℕ) → is_awake a.awake agent ≡ false → IsAsleep (built_to (core_of a)) (core_of a).state agent
  asleep_in agent out =
      subst (λ (d : Design). IsAsleep d (core_of a).state agent) (sym (design_is a is))
      (subst (λ (s : State). IsAsleep (design_of is.load) s agent) (sym (state_is a is))
      (agents_sleep (design_of is.load) (after is.load is.steps) a.awake is.sleepers agent out))

  -- so its turn changes nothing
  pub slept : (agent : ℕ) (choices : List Choice) → is_awake a.awake agent ≡ false → core_of a ≡ core_after (core_of a) (attempts_of agent choices)
  slept agent choices out = sym (same_machine (core_of a) agent choices (asleep_in agent out))

-- a turn after which as many moves are left as before it: none of its choices moved
module _ {A : Type 0} (start : Inside A) (is : IsMachine start) (c : Core) (view : core_of start ≡ c) (agent : ℕ) (choices : List Choice)
    (all : attempts_of agent choices ≡ attempts_at c.shape agent) where
  stands : IsAfter is.load c is.steps
  stands = subst (λ (x : Core). IsAfter is.load x is.steps) view is.after

  idle : (core_after c (attempts_of agent choices)).moves_left ≡ c.moves_left → has_moved (built_to c) c.state (attempts_of agent choices) ≡ false
  idle same =
      let left = left_after is.load c is.steps stands (attempts_of agent choices) in
      none_moved (built_to c) c.state (attempts_of agent choices) (omega (arith, left, same))

  -- then the machine is as it was, and the agent may count as asleep
  pub falls_asleep : (b : Inside A) (mb : IsMachine b) (now : Core) → core_of b ≡ now → now ≡ core_after c (attempts_of agent choices) → b.left ≡ start.left
      → (awake : Awake) → awake ≡ rested b.awake agent → IsMachine (with_parts b b.tiles b.row b.book awake b.ports b.left)
  falls_asleep b mb now view_b made same awake awake_is =
      let left : (core_after c (attempts_of agent choices)).moves_left ≡ c.moves_left =
      ap (λ (x : Core). x.moves_left) (sym made) ∙ (ap (λ (x : Core). x.moves_left) (sym view_b) ∙ (same ∙ ap (λ (x : Core). x.moves_left) view)) in
      let still = idle left in
      let at_all : has_moved (built_to c) c.state (attempts_at c.shape agent) ≡ false =
      subst (λ (xs : List Step). has_moved (built_to c) c.state xs ≡ false) all still in
      let stays : core_after c (attempts_of agent choices) ≡ c = same_machine c agent choices (falls (built_to c) c.state agent at_all) in
      let unchanged : c ≡ core_of b = sym (view_b ∙ (made ∙ stays)) in
      let in_b : has_moved (built_to (core_of b)) (core_of b).state (attempts_at (built_to (core_of b)).shape agent) ≡ false =
      subst (λ (x : Core). has_moved (built_to x) x.state (attempts_at x.shape agent) ≡ false) unchanged at_all in
      let of_load : has_moved (design_of mb.load) (core_of b).state (attempts_at (design_of mb.load).shape agent) ≡ false =
      subst (λ (d : Design). has_moved d (core_of b).state (attempts_at d.shape agent) ≡ false) (design_is b mb) in_b in
      let there : has_moved (design_of mb.load) (after mb.load mb.steps) (attempts_at (design_of mb.load).shape agent) ≡ false =
      subst (λ (s : State). has_moved (design_of mb.load) s (attempts_at (design_of mb.load).shape agent) ≡ false) (state_is b mb) of_load in
      record {
        load = mb.load;
        steps = mb.steps;
        after = mb.after;
        seen = mb.seen;
        banks = mb.banks;
        room = mb.room;
        built = ap (λ (w : Awake). w.design) awake_is ∙ mb.built;
        sleepers = subst (λ (w : Awake). OtherChoicesSleep (design_of mb.load) (after mb.load mb.steps) (is_choice_awake w)) (sym awake_is)
            (rests (design_of mb.load) (after mb.load mb.steps) agent b.awake mb.sleepers there);
        routed = mb.routed;
        ports = mb.ports;
      }

-- one choice
module _ {A : Type 0} (a : Inside A) (is : IsMachine a) (c : Core) (view : core_of a ≡ c) (agent : ℕ) (choice : Choice) where
  abbrev attempt : Step
  attempt = record { agent = agent; choice = choice }

  -- one that doesn't count as awake isn't enabled, and is left out
  pub choice_slept : is_choice_awake a.awake agent choice ≡ false → c ≡ core_next c attempt
  choice_slept out =
      let none : IsIdle c attempt = subst (λ (x : Core). IsIdle x attempt) view (idle_here a is attempt (is.sleepers agent choice out)) in
      sym (ap (core_with c (event_in (built_to c) c.state attempt)) none)

  -- one that isn't enabled may count as asleep
  pub choice_falls_asleep : (kind : Agent) → agent_kind agent ≡ kind → (kind ≡ Router → ⊥) → ((ports : ℕ) → has_choice ports kind choice ≡ true)
      → IsIdle c attempt → (awake : Awake) → awake.design ≡ a.awake.design
      → ((k : ℕ) (z : Choice) → is_choice_awake awake k z ≡ choice_rested agent choice (is_choice_awake a.awake) k z)
      → IsMachine (with_parts a a.tiles a.row a.book awake a.ports a.left)
  choice_falls_asleep kind which other has none awake design rest =
      let d : Design = design_of is.load in
      let s : State = after is.load is.steps in
      let ports : ℕ = port_count (dims_of d.shape) in
      let idle : step d s attempt ≡ None = idle_there a is attempt (subst (λ (x : Core). IsIdle x attempt) (sym view) none) in
      let sleep = choice_rests d s agent choice (is_choice_awake a.awake) is.sleepers (λ e. other (sym which ∙ e))
      (ap (λ (k : Agent). has_choice ports k choice) which ∙ has ports) idle in
      record {
        load = is.load;
        steps = is.steps;
        after = is.after;
        seen = is.seen;
        banks = is.banks;
        room = is.room;
        built = design ∙ is.built;
        sleepers = λ k z out. sleep k z (sym (rest k z) ∙ out);
        routed = is.routed;
        ports = is.ports;
      }

-- choices none of which counts as awake change nothing
module _ {A : Type 0} (a : Inside A) (is : IsMachine a) (agent : ℕ) where
  pub choices_slept : (choices : List Choice) → list_any (is_choice_awake a.awake agent) choices ≡ false
      → core_of a ≡ core_after (core_of a) (attempts_of agent choices)
  choices_slept [] out = refl
  choices_slept (x ∷ xs) out = by_test (is_choice_awake a.awake agent x) refl (choices_slept xs) out
    where
      by_test : (b : Bool) → is_choice_awake a.awake agent x ≡ b
          → (list_any (is_choice_awake a.awake agent) xs ≡ false → core_of a ≡ core_after (core_of a) (attempts_of agent xs))
          → (b || list_any (is_choice_awake a.awake agent) xs) ≡ false
          → core_of a ≡ core_after (core_of a) (attempts_of agent (x ∷ xs))
      by_test true e more rest = absurd (cc)
      by_test false e more rest =
          more rest
          ∙ ap (λ (c : Core). core_after c (attempts_of agent xs)) (choice_slept a is (core_of a) refl agent x e)
