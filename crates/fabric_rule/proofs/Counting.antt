-- What a seat counts stays right by its moves, and where a choice falls asleep.
use Rattle.std.proofs.Common.{◌≡◌, ◌≢◌, ℕ, zero, suc, ◌<◌, ◌≤◌, Bool, true, false, List, [], ◌∷◌, ◌++◌, Some, None, refl, sym, ap, ◌∙◌, subst, arith, length}
use Rattle.std.specs.Prelude.{not, ◌&&◌, ◌==◌, nat_lt, bit_or, slice_index, slice_set}
use Rattle.std.proofs.lemmas.Nat.Bits.{bit_at_or}
use Rattle.std.specs.Int.{bit_at}
use Rattle.std.proofs.lemmas.Bool.{cases_lt}
use Rattle.torus.specs.Shape.{Shape, dims_of}
use Rattle.torus.specs.declared.step.Step.{Step}
use Rattle.torus.specs.declared.step.Choice.{Choice}
use Rattle.torus.specs.declared.step.Choice.TheVariants as choice
use Rattle.channel_number.specs.Ports.{port_count}
use Rattle.flit_buffer.specs.declared.word_op.WordOp.{WordOp}
use Rattle.tile.specs.declared.agent.Agent.{Agent}
use Rattle.tile.specs.declared.agent.Agent.TheVariants.{Processor, Router, Bank}
use Rattle.tile.specs.Tile.{Design}
use Rattle.tile.specs.Agents.{TilePlace, agent_number, agent_kind, agent_tile}
use Rattle.tile.specs.Choices.{has_choice}
use Rattle.tile.proofs.AgentNumbers.{number_is, kind_of_number}
use Rattle.core_laws.specs.Core.{Load, State, design_of, after}
use Rattle.core_laws.specs.Runs.{IsAcceptedLoad}
use Rattle.core_laws.specs.ChoicesAsleep.{OtherChoicesSleep}
use Rattle.core_laws.proofs.PortsMet.{none_of}
use Rattle.core_laws.specs.Operations.{woken_by_operation}
use Rattle.core_laws.specs.Routers.{PortFlags, OtherPortsSleep, of_router, ports_woken, router_moved}
use Rattle.machine_parts.specs.Awake.{Awake, bit_of, bits_at, bits_by, with_bits, is_choice_awake, roused, awake_after, choice_rested}
use Rattle.machine_parts.specs.Ports.{AwakePorts, is_raised, flags_of, take_rested, put_rested, credit_rested}
use Rattle.machine_parts.proofs.PortSets.{max_zero}
use Rattle.machine_parts.proofs.KeptSleepers.{choice_roused, every_choice, moved}
use Rattle.fabric_rule.specs.Known.{tile_of, known, enabled, op_of}
use Rattle.fabric_rule.specs.Groups.{In, Others}
use Rattle.fabric_rule.specs.Inner.{tile_before, tile_behind}
use Rattle.fabric_rule.specs.Border.{TakesInside, CreditsInside}
use Rattle.fabric_rule.specs.Counted.{Counted, AreRight}
use Rattle.fabric_rule.specs.Sleeping.{RestsInside, PortsRestInside, Sleeps}
use Rattle.fabric_rule.proofs.Flags as flags
use Rattle.fabric_rule.proofs.Ports as ports
use Rattle.fabric_rule.proofs.Kept.{others_keep, woken_inside, moved_inside}
use Rattle.fabric_rule.proofs.Falling as falling
use Rattle.fabric_rule.proofs.Falling.{true_isnt}
use Rattle.machine_core.proofs.RouterFlags.{fresh_sleep}

abbrev PortsSleep : Load → List Step → PortFlags → Type 0
PortsSleep l run f = OtherPortsSleep (design_of l) (after l run) f

abbrev PortsInside : Load → List (List ℕ) → PortFlags → Type 0
PortsInside l gs f = PortsRestInside l.shape gs f

no_router : (agent : ℕ) → agent_kind agent ≢ Router → (t : ℕ) → agent_number t Router ≢ agent
no_router agent other t e = other (ap agent_kind (sym e) ∙ kind_of_number t Router)

pub no_processor : (agent : ℕ) → agent_kind agent ≡ Processor → agent_kind agent ≢ Router
no_processor agent is router = let e : ◌≡◌ {A = Agent} Processor Router = sym is ∙ router in cc

pub no_bank : (agent : ℕ) → agent_kind agent ≡ Bank → agent_kind agent ≢ Router
no_bank agent is router = let e : ◌≡◌ {A = Agent} Bank Router = sym is ∙ router in cc

-- a step of a router, by its tile
pub of_its_router : (c : Step) → agent_kind c.agent ≡ Router → c ≡ of_router (agent_tile c.agent) c.choice
of_its_router c is = λ i. record { agent = number_is c.agent (agent_tile c.agent) Router refl is i; choice = c.choice }

-- a bit that is clear behind some that were set was clear before
or_clear : (x bits b : ℕ) → not (bit_at (bit_or x bits) b == 0) ≡ false → not (bit_at x b == 0) ≡ false
or_clear x bits b out =
    (none_of (not (bit_at x b == 0)) (not (bit_at bits b == 0))
    (sym (ap (λ (n : ℕ). not (n == 0)) (bit_at_or x bits b) ∙ max_zero (bit_at x b) (bit_at bits b)) ∙ out)).0

set_clear : (flags : List ℕ) (bits a k b : ℕ) → not (bit_at (bits_at (slice_set flags a (bit_or (slice_index flags a) bits)) k) b == 0) ≡ false
    → not (bit_at (bits_at flags k) b == 0) ≡ false
set_clear [] bits a k b out = out
set_clear (x ∷ flags) bits zero zero b out = or_clear x bits b out
set_clear (x ∷ flags) bits zero (suc k) b out = out
set_clear (x ∷ flags) bits (suc a) zero b out = out
set_clear (x ∷ flags) bits (suc a) (suc k) b out = set_clear flags bits a k b out

bits_clear : (flags : List ℕ) (bits : ℕ) (agents : List ℕ) (k b : ℕ) → not (bit_at (bits_at (with_bits flags bits agents) k) b == 0) ≡ false
    → not (bit_at (bits_at flags k) b == 0) ≡ false
bits_clear flags bits [] k b out = out
bits_clear flags bits (a ∷ agents) k b out =
    set_clear flags bits a k b (bits_clear (slice_set flags a (bit_or (slice_index flags a) bits)) bits agents k b out)

-- what counts as asleep after a move did before
asleep_before : (w : Awake) (agent : ℕ) (op : WordOp) (k : ℕ) (c : Choice) → is_choice_awake (awake_after w agent op) k c ≡ false → is_choice_awake w k c ≡ false
asleep_before w agent op k c out =
    (choice_roused w agent k c (bits_clear (roused w agent).flags (bits_by op) (woken_by_operation w.design op) k (bit_of c) out)).1

-- the parts beside the choices and ports
with_sleep : (l : Load) (now : List Step) (gs : List (List ℕ)) (b a : Counted) → a.awake.design ≡ b.awake.design → a.ports.design ≡ b.ports.design
    → a.border_takes ≡ b.border_takes → a.border_credits ≡ b.border_credits → (run : List Step) → AreRight l run gs b
    → Sleeps l now gs (is_choice_awake a.awake) (flags_of a.ports) → AreRight l now gs a
with_sleep l now gs b a built routed takes credits run right sleep = record {
  built = built ∙ right.built;
  routed = routed ∙ right.routed;
  sleep = sleep;
  takes = subst (TakesInside l.shape gs) (sym takes) right.takes;
  credits = subst (CreditsInside l.shape gs) (sym credits) right.credits;
}

-- attempts of others
pub others_right : (l : Load) (ok : IsAcceptedLoad l) (gs : List (List ℕ)) (run between : List Step) (b : Counted) → Others gs between → AreRight l run gs b
    → AreRight l (run ++ between) gs b
others_right l ok gs run between b others right =
    with_sleep l (run ++ between) gs b b refl refl refl refl run right
    (others_keep l ok gs run between (is_choice_awake b.awake) (flags_of b.ports) right.sleep others)

module _ (l : Load) (ok : IsAcceptedLoad l) (gs : List (List ℕ)) (run between : List Step) (others : Others gs between) (b a : Counted) (right : AreRight l run gs b)
    (takes : a.border_takes ≡ b.border_takes) (credits : a.border_credits ≡ b.border_credits) (routed : a.ports.design ≡ b.ports.design) where
  abbrev d : Design
  d = design_of l

  abbrev far : List Step
  far = run ++ between

  module _ (c : Step) (p : TilePlace) (op : WordOp) (mine : In gs (tile_of c)) (here : known l run (tile_of c) ≡ Some p) (asks : op_of p c ≡ Some op)
      (can : enabled l far c ≡ true) (awake : a.awake ≡ awake_after b.awake c.agent op) where
    choices_moved : OtherChoicesSleep d (after l (far ++ c ∷ [])) (is_choice_awake a.awake)
    choices_moved =
        subst (λ (w : Awake). OtherChoicesSleep d (after l (far ++ c ∷ [])) (is_choice_awake w)) (sym awake)
        (subst (λ (z : State). OtherChoicesSleep d z (is_choice_awake (awake_after b.awake c.agent op)))
        (sym (flags.leads l ok gs run between others c p op mine here asks can))
        (moved l ok far c op (flags.then l ok gs run between others c p op mine here asks can) b.awake right.built
        (flags.others_keep l ok gs run between others (is_choice_awake b.awake) right.sleep.choices right.sleep.inside)
        (flags.by l ok gs run between others c p op mine here asks can) (flags.makes l ok gs run between others c p op mine here asks can)))

    rests_moved : RestsInside gs (is_choice_awake a.awake)
    rests_moved k z out =
        right.sleep.inside k z (asleep_before b.awake c.agent op k z (sym (ap (λ (w : Awake). is_choice_awake w k z) awake) ∙ out))

    pub other_moved : agent_kind c.agent ≢ Router → flags_of a.ports ≡ ports_woken b.ports.design op (flags_of b.ports) → AreRight l (far ++ c ∷ []) gs a
    other_moved other woken =
        let ports_are : flags_of a.ports ≡ ports_woken d op (flags_of b.ports) = woken ∙ ap (λ (x : Design). ports_woken x op (flags_of b.ports)) right.routed in
        let kept = ports.moved_keep l ok gs run between others (flags_of b.ports) right.sleep.ports right.sleep.ports_inside c p op mine here asks can
        (no_router c.agent other) in
        with_sleep l (far ++ c ∷ []) gs b a (ap (λ (w : Awake). w.design) awake) routed takes credits run right record {
          choices = choices_moved;
          inside = rests_moved;
          ports = subst (PortsSleep l (far ++ c ∷ [])) (sym ports_are) kept;
          ports_inside = subst (PortsInside l gs) (sym ports_are) (woken_inside gs l.shape d op (flags_of b.ports) right.sleep.ports_inside);
        }

    pub router_right : agent_kind c.agent ≡ Router → flags_of a.ports ≡ router_moved (agent_tile c.agent) c.choice (ports_woken b.ports.design op (flags_of b.ports))
        → AreRight l (far ++ c ∷ []) gs a
    router_right is woken =
        let t : ℕ = agent_tile c.agent in
        let e : of_router t c.choice ≡ c = sym (of_its_router c is) in
        let ports_are : flags_of a.ports ≡ router_moved t c.choice (ports_woken d op (flags_of b.ports)) =
        woken ∙ ap (λ (x : Design). router_moved t c.choice (ports_woken x op (flags_of b.ports))) right.routed in
        let kept = ports.router_keep l ok gs run between others (flags_of b.ports) right.sleep.ports right.sleep.ports_inside t c.choice p op mine here
        (subst (λ (x : Step). op_of p x ≡ Some op) (sym e) asks) (subst (λ (x : Step). enabled l far x ≡ true) (sym e) can) in
        with_sleep l (far ++ c ∷ []) gs b a (ap (λ (w : Awake). w.design) awake) routed takes credits run right record {
          choices = choices_moved;
          inside = rests_moved;
          ports = subst (PortsSleep l (far ++ c ∷ [])) (sym ports_are)
              (subst (λ (x : Step). PortsSleep l (far ++ x ∷ []) (router_moved t c.choice (ports_woken d op (flags_of b.ports)))) e kept);
          ports_inside = subst (PortsInside l gs) (sym ports_are)
              (moved_inside gs l.shape d op t mine c.choice (ports_woken d op (flags_of b.ports))
              (woken_inside gs l.shape d op (flags_of b.ports) right.sleep.ports_inside));
        }

-- where nothing else changes, a choice that isn't enabled falls asleep
module _ (l : Load) (gs : List (List ℕ)) (run : List Step) (b a : Counted) (right : AreRight l run gs b)
    (takes : a.border_takes ≡ b.border_takes) (credits : a.border_credits ≡ b.border_credits) where
  pub choice_right : (agent : ℕ) (c : Choice) → In gs (agent_tile agent) → agent_kind agent ≢ Router → c ≢ choice.Look
      → has_choice (port_count (dims_of l.shape)) (agent_kind agent) c ≡ true → enabled l run (record { agent = agent; choice = c }) ≡ false
      → a.ports ≡ b.ports → a.awake.design ≡ b.awake.design
      → ((k : ℕ) (z : Choice) → is_choice_awake a.awake k z ≡ choice_rested agent c (is_choice_awake b.awake) k z) → AreRight l run gs a
  choice_right agent c mine other no_look has out same built rested =
      with_sleep l run gs b a built (ap (λ (x : AwakePorts). x.design) same) takes credits run right
      (subst (λ (x : AwakePorts). Sleeps l run gs (is_choice_awake a.awake) (flags_of x)) (sym same)
      (falling.more_awake l run gs (choice_rested agent c (is_choice_awake b.awake)) (flags_of b.ports)
      (falling.choice_falls l run gs (is_choice_awake b.awake) (flags_of b.ports) right.sleep agent c mine other no_look has out) (is_choice_awake a.awake)
      (λ k z off. sym (rested k z) ∙ off)))

  module _ (t : ℕ) (mine : In gs t) (awake : a.awake ≡ b.awake) (routed : a.ports.design ≡ b.ports.design) where
    port_right : (f : PortFlags) → flags_of a.ports ≡ f → Sleeps l run gs (is_choice_awake b.awake) f → AreRight l run gs a
    port_right f is sleep =
        with_sleep l run gs b a (ap (λ (w : Awake). w.design) awake) routed takes credits run right
        (subst (λ (w : Awake). Sleeps l run gs (is_choice_awake w) (flags_of a.ports)) (sym awake)
        (subst (λ (g : PortFlags). Sleeps l run gs (is_choice_awake b.awake) g) (sym is) sleep))

    pub take_right : (i : ℕ) → is_raised b.border_takes t i ≡ false → enabled l run (of_router t (choice.TakeFrom i)) ≡ false
        → flags_of a.ports ≡ take_rested t i (flags_of b.ports) → AreRight l run gs a
    take_right i inner out is =
        port_right _ is (falling.take_falls l run gs (is_choice_awake b.awake) (flags_of b.ports) right.sleep t i mine (right.takes t i inner).1 out)

    pub put_right : (i : ℕ) → enabled l run (of_router t (choice.Put i)) ≡ false → flags_of a.ports ≡ put_rested t i (flags_of b.ports) → AreRight l run gs a
    put_right i out is = port_right _ is (falling.put_falls l run gs (is_choice_awake b.awake) (flags_of b.ports) right.sleep t i mine out)

    pub credit_right : (o : ℕ) → is_raised b.border_credits t o ≡ false → enabled l run (of_router t (choice.CreditOf o)) ≡ false
        → flags_of a.ports ≡ credit_rested t o (flags_of b.ports) → AreRight l run gs a
    credit_right o inner out is =
        port_right _ is (falling.credit_falls l run gs (is_choice_awake b.awake) (flags_of b.ports) right.sleep t o mine (right.credits t o inner).1 out)

has_flag : (a b e : Bool) → not (a && (b && e)) ≡ false → not (a && b) ≡ false
has_flag true true e h = refl
has_flag true false e h = absurd (cc)
has_flag false b e h = absurd (cc)

-- where all count as awake, and as full or of the groups' own tiles at the empty run
pub fresh_right : (l : Load) (gs : List (List ℕ)) (c : Counted) → c.awake.design ≡ design_of l → c.ports.design ≡ design_of l
    → ((k : ℕ) (z : Choice) → is_choice_awake c.awake k z ≡ true)
    → ((t i : ℕ) → (flags_of c.ports).takes t i ≡ true) → ((t i : ℕ) → (flags_of c.ports).puts t i ≡ true) → ((t o : ℕ) → (flags_of c.ports).credits t o ≡ true)
    → ((t i : ℕ) → (flags_of c.ports).full t i ≡ false → In gs t)
    → TakesInside l.shape gs c.border_takes → CreditsInside l.shape gs c.border_credits → AreRight l [] gs c
fresh_right l gs c built routed choices takes puts credits full border_takes border_credits = record {
  built = built;
  routed = routed;
  sleep = falling.all_awake l [] gs (is_choice_awake c.awake) (flags_of c.ports) choices takes puts credits (λ t i out. (full t i out, (fresh_sleep l).full t i (has_flag (nat_lt t 64) (nat_lt i 32) (bit_at (slice_index c.ports.full t) i == 0) out)));
  takes = border_takes;
  credits = border_credits;
}

pub roused_right : (l : Load) (run now : List Step) (gs more : List (List ℕ)) (b a : Counted) → AreRight l run gs b → ((t : ℕ) → In gs t → In more t)
    → a.awake.design ≡ b.awake.design → a.ports.design ≡ b.ports.design
    → ((k : ℕ) (z : Choice) → is_choice_awake a.awake k z ≡ true)
    → ((t i : ℕ) → (flags_of a.ports).takes t i ≡ true) → ((t i : ℕ) → (flags_of a.ports).puts t i ≡ true) → ((t o : ℕ) → (flags_of a.ports).credits t o ≡ true)
    → ((t i : ℕ) → (flags_of a.ports).full t i ≡ true) → a.border_takes ≡ b.border_takes → a.border_credits ≡ b.border_credits
    → AreRight l now more a
roused_right l run now gs more b a right wider built routed choices takes puts credits full same_takes same_credits = record {
  built = built ∙ right.built;
  routed = routed ∙ right.routed;
  sleep = falling.all_awake l now more (is_choice_awake a.awake) (flags_of a.ports) choices takes puts credits
      (λ t i out. absurd (true_isnt ((flags_of a.ports).full t i) (full t i) out));
  takes = λ t i out. let k = right.takes t i (ap (λ (w : List ℕ). is_raised w t i) (sym same_takes) ∙ out) in
      (wider t k.0, wider (tile_before l.shape (agent_number t Router) i) k.1);
  credits = λ t o out. let k = right.credits t o (ap (λ (w : List ℕ). is_raised w t o) (sym same_credits) ∙ out) in
      (wider t k.0, wider (tile_behind l.shape (agent_number t Router) o) k.1);
}
