-- What is wanted and enabled is attempted in a round by an arbiter.
use Rattle.std.proofs.Common.{◌≡◌, ℕ, ◌+◌, ◌-◌, ◌<◌, Bool, true, false, List, [], ◌∷◌, ◌++◌, map, filter, Some, sym, ap, refl, arith, subst}
use Rattle.std.specs.Prelude.{if◌then◌else◌, is_some, nat_lt}
use Rattle.std.specs.List.{flat_map, range_with_len}
use Rattle.std.proofs.lemmas.Bool.{ltb-true}
use Rattle.torus.specs.Shape.{tiles_of, dims_of}
use Rattle.torus.specs.declared.step.Step.{Step}
use Rattle.torus.specs.declared.step.Choice.{Choice}
use Rattle.torus.specs.declared.step.Choice.TheVariants as choice
use Rattle.torus.specs.Choices.{processor_choices, bank_choices}
use Rattle.channel_number.specs.Ports.{port_count}
use Rattle.flit_buffer.specs.declared.want.Want.{Want}
use Rattle.flit_buffer.specs.declared.want.Want.TheVariants as want
use Rattle.wormhole.specs.Net.{IsOn}
use Rattle.router.specs.Table.{latch_of, wants_to_take, wants_to_put}
use Rattle.tile.specs.Tile.{Design, TileState}
use Rattle.tile.specs.declared.agent.Agent.{Agent}
use Rattle.tile.specs.declared.agent.Agent.TheVariants.{Processor, Router, Bank}
use Rattle.tile.specs.Agents.{agent_number, agent_kind, agent_tile, tile_wants}
use Rattle.tile.proofs.AgentNumbers.{number_is}
use Rattle.core_laws.specs.Core.{step, attempts_of}
use Rattle.core_laws.specs.Machine.{Core, built_to}
use Rattle.core_laws.proofs.Attempts.{on_left, on_right, on_map, on_flat_map, on_range}
use Rattle.core_laws.proofs.RouterWork.{if_so}
use Rattle.core_laws.proofs.Stands.{tile_at}
use Rattle.core_laws.proofs.Steps.{IsThere}
use Rattle.machine_core.specs.Rounds.{attempts_between}
use Rattle.machine_core.specs.Arbiters.{Arbiter, NamesInputs, IsArbiter, arbited_at, arbited_round}

on_filter : {A : Type 0} (test : A → Bool) (x : A) (xs : List A) → test x ≡ true → IsOn x xs → IsOn x (filter test xs)
on_filter {A} test x xs meets on = subst (λ zs. IsOn x (filter test zs)) (sym on.2) (split on.0)
  where
    kept : (b : Bool) (y : A) (ys : List A) → IsOn x ys → IsOn x (if b then y ∷ ys else ys)
    kept true y ys at = (y ∷ at.0, at.1, ap (λ zs. y ∷ zs) at.2)
    kept false y ys at = at

    split : (before : List A) → IsOn x (filter test (before ++ x ∷ on.1))
    split [] = subst (λ (b : Bool). IsOn x (if b then x ∷ filter test on.1 else filter test on.1)) (sym meets) ([], filter test on.1, refl)
    split (y ∷ before) = kept (test y) y (filter test (before ++ x ∷ on.1)) (split before)

on_between : (f : ℕ → Choice) (agent n i : ℕ) → i < n → IsOn (record { agent = agent; choice = f i }) (attempts_between f agent 0 n)
on_between f agent n i low =
    let e : 0 + i ≡ i = omega arith in
    let all : n ≡ n - 0 = omega arith in
    subst (λ m. IsOn (record { agent = agent; choice = f i }) (attempts_of agent (map f (range_with_len 0 m)))) all
    (on_map (λ (c : Choice). record { agent = agent; choice = c }) (f i) (map f (range_with_len 0 n))
    (on_map f i (range_with_len 0 n) (subst (λ z. IsOn z (range_with_len 0 n)) e (on_range 0 n i low))))

module _ (d : Design) (ports : ℕ) (inputs : List ℕ) (t : ℕ) (order : NamesInputs ports inputs) (are : port_count (dims_of d.shape) ≡ ports) where
  abbrev attempt : Agent → Choice → Step
  attempt a c = record { agent = agent_number t a; choice = c }

  abbrev processors : List Step
  processors = attempts_of (agent_number t Processor) processor_choices

  abbrev takes : List Step
  takes = attempts_between (λ input. choice.TakeFrom input) (agent_number t Router) 0 ports

  abbrev puts : List Step
  puts = attempts_of (agent_number t Router) (map (λ input. choice.Put input) inputs)

  abbrev credits : List Step
  credits = attempts_between (λ output. choice.CreditOf output) (agent_number t Router) 0 ports

  abbrev banks : List Step
  banks = attempts_of (agent_number t Bank) bank_choices

  of_processor : (c : Choice) → IsOn c processor_choices → IsOn (attempt Processor c) (arbited_at ports inputs t)
  of_processor c on = on_left (attempt Processor c) processors (takes ++ puts ++ credits ++ banks)
      (on_map (λ (x : Choice). record { agent = agent_number t Processor; choice = x }) c processor_choices on)

  of_bank : (c : Choice) → IsOn c bank_choices → IsOn (attempt Bank c) (arbited_at ports inputs t)
  of_bank c on = on_right (attempt Bank c) processors (takes ++ puts ++ credits ++ banks)
      (on_right (attempt Bank c) (takes ++ puts ++ credits) banks
      (on_map (λ (x : Choice). record { agent = agent_number t Bank; choice = x }) c bank_choices on))

  of_take : (i : ℕ) → i < ports → IsOn (attempt Router (choice.TakeFrom i)) (arbited_at ports inputs t)
  of_take i low = on_right (attempt Router (choice.TakeFrom i)) processors (takes ++ puts ++ credits ++ banks)
      (on_left (attempt Router (choice.TakeFrom i)) (takes ++ puts ++ credits) banks
      (on_left (attempt Router (choice.TakeFrom i)) (takes ++ puts) credits
      (on_left (attempt Router (choice.TakeFrom i)) takes puts
      (on_between (λ input. choice.TakeFrom input) (agent_number t Router) ports i low))))

  of_put : (i : ℕ) → i < ports → IsOn (attempt Router (choice.Put i)) (arbited_at ports inputs t)
  of_put i low =
      let at = order.all i low in
      on_right (attempt Router (choice.Put i)) processors (takes ++ puts ++ credits ++ banks)
      (on_left (attempt Router (choice.Put i)) (takes ++ puts ++ credits) banks
      (on_left (attempt Router (choice.Put i)) (takes ++ puts) credits
      (on_right (attempt Router (choice.Put i)) takes puts
      (on_map (λ (x : Choice). record { agent = agent_number t Router; choice = x }) (choice.Put i) (map (λ input. choice.Put input) inputs)
      (on_map (λ input. choice.Put input) i inputs (at.0, at.1, at.2))))))

  of_credit : (o : ℕ) → o < ports → IsOn (attempt Router (choice.CreditOf o)) (arbited_at ports inputs t)
  of_credit o low = on_right (attempt Router (choice.CreditOf o)) processors (takes ++ puts ++ credits ++ banks)
      (on_left (attempt Router (choice.CreditOf o)) (takes ++ puts ++ credits) banks
      (on_right (attempt Router (choice.CreditOf o)) (takes ++ puts) credits
      (on_between (λ output. choice.CreditOf output) (agent_number t Router) ports o low)))

  below : (b : Bool) (i : ℕ) → nat_lt i (port_count (dims_of d.shape)) ≡ true → i < ports
  below b i h = subst (λ n. i < n) are (ltb-true i (port_count (dims_of d.shape)) h)

  -- a choice that is wanted is one of the attempts
  of_wanted : (u : TileState) (a : Agent) (c : Choice) (w : Want) → tile_wants d t u a c ≡ Some w → IsOn (attempt a c) (arbited_at ports inputs t)
  of_wanted u Processor choice.Send w h = of_processor choice.Send ([], choice.Take ∷ choice.Credit ∷ choice.Done ∷ choice.Look ∷ [], refl)
  of_wanted u Processor choice.Take w h = of_processor choice.Take (choice.Send ∷ [], choice.Credit ∷ choice.Done ∷ choice.Look ∷ [], refl)
  of_wanted u Processor choice.Credit w h = of_processor choice.Credit (choice.Send ∷ choice.Take ∷ [], choice.Done ∷ choice.Look ∷ [], refl)
  of_wanted u Processor choice.Done w h = of_processor choice.Done (choice.Send ∷ choice.Take ∷ choice.Credit ∷ [], choice.Look ∷ [], refl)
  of_wanted u Processor choice.Look w h = of_processor choice.Look (choice.Send ∷ choice.Take ∷ choice.Credit ∷ choice.Done ∷ [], [], refl)
  of_wanted u Processor (choice.TakeFrom i) w h = absurd (cc)
  of_wanted u Processor (choice.Put i) w h = absurd (cc)
  of_wanted u Processor (choice.CreditOf i) w h = absurd (cc)
  of_wanted u Processor choice.Serve w h = absurd (cc)
  of_wanted u Router (choice.TakeFrom i) w h =
      of_take i (below true i (if_so (nat_lt i (port_count (dims_of d.shape))) (wants_to_take d.shape t i (latch_of u.router i)) w h).0)
  of_wanted u Router (choice.Put i) w h =
      of_put i (below true i (if_so (nat_lt i (port_count (dims_of d.shape))) (wants_to_put d.shape t u.router i (latch_of u.router i)) w h).0)
  of_wanted u Router (choice.CreditOf o) w h = of_credit o (below true o (if_so (nat_lt o (port_count (dims_of d.shape))) (Some (want.Credit o)) w h).0)
  of_wanted u Router choice.Send w h = absurd (cc)
  of_wanted u Router choice.Take w h = absurd (cc)
  of_wanted u Router choice.Credit w h = absurd (cc)
  of_wanted u Router choice.Done w h = absurd (cc)
  of_wanted u Router choice.Look w h = absurd (cc)
  of_wanted u Router choice.Serve w h = absurd (cc)
  of_wanted u Bank choice.Take w h = of_bank choice.Take ([], choice.Serve ∷ choice.Send ∷ choice.Credit ∷ [], refl)
  of_wanted u Bank choice.Serve w h = of_bank choice.Serve (choice.Take ∷ [], choice.Send ∷ choice.Credit ∷ [], refl)
  of_wanted u Bank choice.Send w h = of_bank choice.Send (choice.Take ∷ choice.Serve ∷ [], choice.Credit ∷ [], refl)
  of_wanted u Bank choice.Credit w h = of_bank choice.Credit (choice.Take ∷ choice.Serve ∷ choice.Send ∷ [], [], refl)
  of_wanted u Bank choice.Done w h = absurd (cc)
  of_wanted u Bank choice.Look w h = absurd (cc)
  of_wanted u Bank (choice.TakeFrom i) w h = absurd (cc)
  of_wanted u Bank (choice.Put i) w h = absurd (cc)
  of_wanted u Bank (choice.CreditOf i) w h = absurd (cc)

-- an attempt that is wanted and enabled is made in the round
pub attempted : (by : Arbiter) → IsArbiter by → (c : Core) (a : Step) (w : Want) → agent_tile a.agent < tiles_of c.shape
    → tile_wants (built_to c) (agent_tile a.agent) (tile_at c.state (agent_tile a.agent)) (agent_kind a.agent) a.choice ≡ Some w
    → IsThere (step (built_to c) c.state a) → IsOn a (arbited_round by c)
attempted by is c a w low wanted there =
    let t : ℕ = agent_tile a.agent in
    let ports : ℕ = port_count (dims_of c.shape) in
    let here = of_wanted (built_to c) ports (by c (agent_tile a.agent)) (agent_tile a.agent) (is c (agent_tile a.agent) low) refl
    (tile_at c.state (agent_tile a.agent)) (agent_kind a.agent) a.choice w wanted in
    let same : record { agent = agent_number (agent_tile a.agent) (agent_kind a.agent); choice = a.choice } ≡ a =
    ap (λ (n : ℕ). record { agent = n; choice = a.choice }) (sym (number_is a.agent (agent_tile a.agent) (agent_kind a.agent) refl refl)) in
    on_filter (λ b. is_some (step (built_to c) c.state b)) a
    (flat_map (λ t. arbited_at (port_count (dims_of c.shape)) (by c t) t) (range_with_len 0 (tiles_of c.shape)))
    (ap is_some there.1)
    (on_flat_map (λ t. arbited_at (port_count (dims_of c.shape)) (by c t) t) (agent_tile a.agent) a (range_with_len 0 (tiles_of c.shape))
    (subst (λ z. IsOn z (range_with_len 0 (tiles_of c.shape))) (let e : 0 + agent_tile a.agent ≡ agent_tile a.agent = omega arith in e)
    (on_range 0 (tiles_of c.shape) (agent_tile a.agent) low))
    (subst (λ (b : Step). IsOn b (arbited_at (port_count (dims_of c.shape)) (by c (agent_tile a.agent)) (agent_tile a.agent))) same here))
