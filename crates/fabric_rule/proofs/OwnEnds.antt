-- At the other end of a channel of a tile's processor or bank is the tile's own router.
use Rattle.std.proofs.Common.{◌≡◌, ◌≢◌, ℕ, ◌+◌, ◌*◌, ◌<◌, true, List, get_or, refl, sym, ap, ◌∙◌, subst, arith}
use Rattle.std.specs.Prelude.{if◌then◌else◌}
use Rattle.std.proofs.lemmas.Nat.{div-mul-add}
use Rattle.torus.specs.Shape.{Shape, dims_of}
use Rattle.torus.specs.declared.step.Choice.{Choice}
use Rattle.torus.specs.declared.step.Choice.TheVariants as choice
use Rattle.torus.specs.declared.shape.Class.{Class}
use Rattle.torus.specs.declared.shape.Class.TheVariants.{Request, Reply}
use Rattle.dateline_route.specs.declared.channel.Channel.{Channel}
use Rattle.channel_number.specs.Order.{channels_at_tile, class_place}
use Rattle.channel_number.specs.Ports.{port_count, injection_channel, ejection_channel, output_router, tile_after, is_injection, is_ejection}
use Rattle.flit_buffer.specs.Surroundings.{Wiring}
use Rattle.tile.specs.declared.agent.Agent.{Agent}
use Rattle.tile.specs.declared.agent.Agent.TheVariants.{Processor, Router, Bank}
use Rattle.tile.specs.Agents.{agent_number, agent_kind, agent_tile, wiring_of}
use Rattle.tile.specs.Choices.{has_choice}
use Rattle.tile.proofs.AgentNumbers.{tile_of_number, kind_of_number, number_is}
use Rattle.core_laws.proofs.ChannelFacts.{injection_is, ejection_is}
use Rattle.core_laws.specs.Waking.{receiver_of, sender_of, taker, speaker, wiring_at}
use Rattle.fabric_rule.specs.Groups.{In}
use Rattle.fabric_rule.specs.Inner.{IsInner}

small : (n : ℕ) (class : Class) → 8 * n + 2 + class_place class < 8 * n + 4
small n Request = omega arith
small n Reply = omega arith

module _ (s : Shape) (t : ℕ) where
  left : (class : Class) → output_router s (ejection_channel s t class) ≡ t
  left class = div-mul-add t (channels_at_tile s) (8 * dims_of s + 2 + class_place class) (small (dims_of s) class)

  -- whoever sends on the tile's ejection
  before : (class : Class) → agent_tile (sender_of s (ejection_channel s t class)) ≡ t
  before class =
      ap (λ (x : Channel). agent_tile (if is_injection x.kind then agent_number x.tile (speaker x.class)
      else agent_number (output_router s (ejection_channel s t class)) Router)) (ejection_is s t class)
      ∙ (tile_of_number (output_router s (ejection_channel s t class)) Router ∙ left class)

  -- whoever receives from its injection
  behind : (class : Class) → agent_tile (receiver_of s (injection_channel s t class)) ≡ t
  behind class =
      ap (λ (x : Channel). agent_tile (if is_ejection x.kind then agent_number x.tile (taker x.class)
      else agent_number (tile_after s x.tile x.kind) Router)) (injection_is s t class)
      ∙ tile_of_number t Router

  pub wired : (a : Agent) → wiring_at s (agent_number t a) ≡ wiring_of s t a
  wired a = ap (λ (u : ℕ). wiring_of s u (agent_kind (agent_number t a))) (tile_of_number t a) ∙ ap (wiring_of s t) (kind_of_number t a)

  module _ (gs : List (List ℕ)) (mine : In gs t) where
    takes : (a : Agent) (class : Class) → get_or (wiring_of s t a).inputs 0 0 ≡ ejection_channel s t class → IsInner s gs (agent_number t a) choice.Take
    takes a class e =
        subst (In gs)
        (sym (ap (λ (v : Wiring). agent_tile (sender_of s (get_or v.inputs 0 0))) (wired a) ∙ (ap (λ (x : ℕ). agent_tile (sender_of s x)) e ∙ before class)))
        mine

    credits : (a : Agent) (class : Class) → get_or (wiring_of s t a).outputs 0 0 ≡ injection_channel s t class → IsInner s gs (agent_number t a) choice.Credit
    credits a class e =
        subst (In gs)
        (sym (ap (λ (v : Wiring). agent_tile (receiver_of s (get_or v.outputs 0 0))) (wired a) ∙ (ap (λ (x : ℕ). agent_tile (receiver_of s x)) e ∙ behind class)))
        mine

    pub of_processor : IsInner s gs (agent_number t Processor) choice.Take × IsInner s gs (agent_number t Processor) choice.Credit
    of_processor = (takes Processor Reply refl, credits Processor Request refl)

    pub of_bank : IsInner s gs (agent_number t Bank) choice.Take × IsInner s gs (agent_number t Bank) choice.Credit
    of_bank = (takes Bank Request refl, credits Bank Reply refl)

-- so all choices of the groups' processors and banks are inner, but for a look at the done word
pub own_inner : (s : Shape) (gs : List (List ℕ)) (agent : ℕ) (c : Choice) → In gs (agent_tile agent) → agent_kind agent ≢ Router → c ≢ choice.Look
    → has_choice (port_count (dims_of s)) (agent_kind agent) c ≡ true
    → IsInner s gs agent c
own_inner s gs agent c mine other no_look has = by_kind (agent_kind agent) refl c no_look has
  where
    by_kind : (a : Agent) → agent_kind agent ≡ a → (c : Choice) → c ≢ choice.Look → has_choice (port_count (dims_of s)) a c ≡ true → IsInner s gs agent c
    by_kind Processor is choice.Take look h =
        subst (λ (n : ℕ). IsInner s gs n choice.Take) (sym (number_is agent (agent_tile agent) Processor refl is)) (of_processor s (agent_tile agent) gs mine).0
    by_kind Processor is choice.Credit look h =
        subst (λ (n : ℕ). IsInner s gs n choice.Credit) (sym (number_is agent (agent_tile agent) Processor refl is)) (of_processor s (agent_tile agent) gs mine).1
    by_kind Processor is choice.Send look h = tt
    by_kind Processor is choice.Done look h = tt
    by_kind Processor is choice.Look look h = absurd (look refl)
    by_kind Processor is choice.Serve look h = absurd (cc)
    by_kind Processor is (choice.TakeFrom i) look h = absurd (cc)
    by_kind Processor is (choice.Put i) look h = absurd (cc)
    by_kind Processor is (choice.CreditOf o) look h = absurd (cc)
    by_kind Bank is choice.Take look h =
        subst (λ (n : ℕ). IsInner s gs n choice.Take) (sym (number_is agent (agent_tile agent) Bank refl is)) (of_bank s (agent_tile agent) gs mine).0
    by_kind Bank is choice.Credit look h =
        subst (λ (n : ℕ). IsInner s gs n choice.Credit) (sym (number_is agent (agent_tile agent) Bank refl is)) (of_bank s (agent_tile agent) gs mine).1
    by_kind Bank is choice.Send look h = tt
    by_kind Bank is choice.Serve look h = tt
    by_kind Bank is choice.Done look h = absurd (cc)
    by_kind Bank is choice.Look look h = absurd (cc)
    by_kind Bank is (choice.TakeFrom i) look h = absurd (cc)
    by_kind Bank is (choice.Put i) look h = absurd (cc)
    by_kind Bank is (choice.CreditOf o) look h = absurd (cc)
    by_kind Router is c look h = absurd (other is)
