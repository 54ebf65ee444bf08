-- Attempts of agents that are asleep, and who falls asleep.
use Rattle.std.proofs.Common.{◌≡◌, ℕ, zero, suc, ◌+◌, ◌<◌, Bool, true, false, List, [], ◌∷◌, ◌++◌, Option, Some, None, refl, ◌∙◌, ap, subst, arith}
use Rattle.std.specs.Prelude.{◌||◌, is_some, map}
use Rattle.std.specs.List.{range_with_len}
use Rattle.std.proofs.lemmas.Bool.{ltb-true}
use Rattle.torus.specs.Shape.{dims_of}
use Rattle.torus.specs.declared.step.Step.{Step}
use Rattle.torus.specs.declared.step.Choice.{Choice}
use Rattle.torus.specs.declared.step.Choice.TheVariants as choice
use Rattle.channel_number.specs.Ports.{port_count}
use Rattle.core_laws.specs.Agent.{Agent}
use Rattle.core_laws.specs.Agent.TheVariants.{Processor, Router, Bank}
use Rattle.core_laws.specs.Tile.{Design}
use Rattle.core_laws.specs.Agents.{agent_kind}
use Rattle.core_laws.specs.Core.{State, step, or_same, after_from, attempts_of}
use Rattle.core_laws.specs.Choices.{has_choice}
use Rattle.core_laws.proofs.AgentChoices.{other_choice}
use Rattle.core_laws.specs.Machine.{Core, built_to, event_in, core_with, core_after}
use Rattle.core_laws.specs.Sleep.{IsAsleep, choices_of, attempts_at, has_moved}

-- what holds of each choice of a list
module _ (P : Choice → Type 0) where
  abbrev Each : List Choice → Type 0
  Each [] = Unit {0}
  Each (c ∷ cs) = P c × Each cs

  each_left : (xs ys : List Choice) → Each (xs ++ ys) → Each xs
  each_left [] ys h = tt
  each_left (x ∷ xs) ys h = (h.0, each_left xs ys h.1)

  each_right : (xs ys : List Choice) → Each (xs ++ ys) → Each ys
  each_right [] ys h = h
  each_right (x ∷ xs) ys h = each_right xs ys h.1

  each_numbered : (f : ℕ → Choice) (a n i : ℕ) → i < n → Each (map f (range_with_len a n)) → P (f (a + i))
  each_numbered f a zero i low h = absurd (omega arith)
  each_numbered f a (suc n) zero low h = let e : a ≡ a + 0 = omega arith in subst (λ (k : ℕ). P (f k)) e h.0
  each_numbered f a (suc n) (suc i) low h = let e : a + 1 + i ≡ a + suc i = omega arith in
      subst (λ (k : ℕ). P (f k)) e (each_numbered f (a + 1) n i (omega arith) h.1)

  abbrev takes : ℕ → List Choice
  takes ports = map (λ i. choice.TakeFrom i) (range_with_len 0 ports)

  abbrev puts : ℕ → List Choice
  puts ports = map (λ i. choice.Put i) (range_with_len 0 ports)

  abbrev credits : ℕ → List Choice
  credits ports = map (λ o. choice.CreditOf o) (range_with_len 0 ports)

  abbrev from_0 : (ports i : ℕ) (f : ℕ → Choice) → has_choice ports Router (f i) ≡ true → P (f (0 + i)) → P (f i)
  from_0 ports i f h p = let e : 0 + i ≡ i = omega arith in subst (λ (k : ℕ). P (f k)) e p

  -- a choice that the agent has is among those of the round
  own : (ports : ℕ) (a : Agent) → Each (choices_of ports a) → (c : Choice) → has_choice ports a c ≡ true → P c
  own ports Processor all choice.Send h = all.0
  own ports Processor all choice.Take h = all.1.0
  own ports Processor all choice.Credit h = all.1.1.0
  own ports Processor all choice.Done h = all.1.1.1.0
  own ports Processor all choice.Look h = all.1.1.1.1.0
  own ports Processor all choice.Serve h = absurd (cc)
  own ports Processor all (choice.TakeFrom i) h = absurd (cc)
  own ports Processor all (choice.Put i) h = absurd (cc)
  own ports Processor all (choice.CreditOf o) h = absurd (cc)
  own ports Router all (choice.TakeFrom i) h =
      from_0 ports i (λ k. choice.TakeFrom k) h
      (each_numbered (λ k. choice.TakeFrom k) 0 ports i (ltb-true i ports h)
      (each_left (takes ports) (puts ports) (each_left (takes ports ++ puts ports) (credits ports) all)))
  own ports Router all (choice.Put i) h =
      from_0 ports i (λ k. choice.Put k) h
      (each_numbered (λ k. choice.Put k) 0 ports i (ltb-true i ports h)
      (each_right (takes ports) (puts ports) (each_left (takes ports ++ puts ports) (credits ports) all)))
  own ports Router all (choice.CreditOf o) h =
      from_0 ports o (λ k. choice.CreditOf k) h
      (each_numbered (λ k. choice.CreditOf k) 0 ports o (ltb-true o ports h) (each_right (takes ports ++ puts ports) (credits ports) all))
  own ports Router all choice.Send h = absurd (cc)
  own ports Router all choice.Take h = absurd (cc)
  own ports Router all choice.Credit h = absurd (cc)
  own ports Router all choice.Serve h = absurd (cc)
  own ports Router all choice.Done h = absurd (cc)
  own ports Router all choice.Look h = absurd (cc)
  own ports Bank all choice.Take h = all.0
  own ports Bank all choice.Serve h = all.1.0
  own ports Bank all choice.Send h = all.1.1.0
  own ports Bank all choice.Credit h = all.1.1.1.0
  own ports Bank all choice.Done h = absurd (cc)
  own ports Bank all choice.Look h = absurd (cc)
  own ports Bank all (choice.TakeFrom i) h = absurd (cc)
  own ports Bank all (choice.Put i) h = absurd (cc)
  own ports Bank all (choice.CreditOf o) h = absurd (cc)

module _ (d : Design) (s : State) where
  -- the first of attempts of which none is enabled isn't, and the others follow from the same state
  settled : (attempts : List Step) (o : Option State) → (is_some o || has_moved d (or_same s o) attempts) ≡ false
      → (o ≡ None) × (has_moved d s attempts ≡ false)
  settled attempts None h = (refl, h)
  settled attempts (Some next) h = absurd (cc)

  pub still : (attempts : List Step) → has_moved d s attempts ≡ false → after_from d s attempts ≡ s
  still [] h = refl
  still (attempt ∷ attempts) h =
      let x = settled attempts (step d s attempt) h in
      ap (λ (o : Option State). after_from d (or_same s o) attempts) x.0 ∙ still attempts x.1

  abbrev Idle : ℕ → Choice → Type 0
  Idle agent c = step d s (record { agent = agent; choice = c }) ≡ None

  each_idle : (agent : ℕ) (cs : List Choice) → has_moved d s (attempts_of agent cs) ≡ false → Each (Idle agent) cs
  each_idle agent [] h = tt
  each_idle agent (c ∷ cs) h = let x = settled (attempts_of agent cs) (step d s (record { agent = agent; choice = c })) h in (x.0, each_idle agent cs x.1)

  pub falls : (agent : ℕ) → has_moved d s (attempts_at d.shape agent) ≡ false → IsAsleep d s agent
  falls agent h c = by_choice (has_choice (port_count (dims_of d.shape)) (agent_kind agent) c) refl
    where
      by_choice : (b : Bool) → has_choice (port_count (dims_of d.shape)) (agent_kind agent) c ≡ b → Idle agent c
      by_choice true has =
          let ports : ℕ = port_count (dims_of d.shape) in
          let a : Agent = agent_kind agent in
          own (Idle agent) ports a (each_idle agent (choices_of ports a) h) c has
      by_choice false lacks = other_choice d s (record { agent = agent; choice = c }) lacks

  pub unmoved : (agent : ℕ) (cs : List Choice) → IsAsleep d s agent → has_moved d s (attempts_of agent cs) ≡ false
  unmoved agent [] asleep = refl
  unmoved agent (c ∷ cs) asleep = ap (λ (o : Option State). is_some o || has_moved d (or_same s o) (attempts_of agent cs)) (asleep c) ∙ unmoved agent cs asleep

  pub same : (agent : ℕ) (cs : List Choice) → IsAsleep d s agent → after_from d s (attempts_of agent cs) ≡ s
  same agent cs asleep = still (attempts_of agent cs) (unmoved agent cs asleep)

pub same_machine : (c : Core) (agent : ℕ) (cs : List Choice) → IsAsleep (built_to c) c.state agent → core_after c (attempts_of agent cs) ≡ c
same_machine c agent [] asleep = refl
same_machine c agent (x ∷ cs) asleep =
    let attempt : Step = record { agent = agent; choice = x } in
    ap (λ (o : Option State). core_after (core_with c (event_in (built_to c) c.state attempt) o) (attempts_of agent cs)) (asleep x)
    ∙ same_machine c agent cs asleep
