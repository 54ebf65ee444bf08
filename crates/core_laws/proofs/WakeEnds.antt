-- The agents at the two ends of each channel.
use Rattle.std.proofs.Common.{◌≡◌, ℕ, zero, suc, ◌<◌, Bool, [], ◌∷◌, length, get_or, refl, ◌∙◌, ap, arith}
use Rattle.std.specs.Prelude.{if◌then◌else◌}
use Rattle.torus.specs.Shape.{Shape, IsAccepted, tiles_of}
use Rattle.torus.specs.declared.shape.Class.{Class}
use Rattle.torus.specs.declared.shape.Class.TheVariants.{Request, Reply}
use Rattle.dateline_route.specs.declared.channel.Channel.{Channel}
use Rattle.dateline_route.specs.declared.channel.Kind.TheVariants.{Injection, Ejection}
use Rattle.channel_number.specs.Order.{channel_at}
use Rattle.channel_number.specs.Ports.{injection_channel, ejection_channel, input_channel, output_channel, is_injection, is_ejection, input_router}
use Rattle.channel_number.specs.Ports.{output_router}
use Rattle.channel_number.proofs.Decoding.{encoded}
use Rattle.channel_number.proofs.Ports.{is_input, is_output}
use Rattle.router.proofs.EmptyChannels.{input_at, output_at}
use Rattle.core_laws.specs.Agent.{Agent}
use Rattle.core_laws.specs.Agent.TheVariants.{Processor, Router, Bank}
use Rattle.core_laws.specs.Agents.{wiring_of, agent_number}
use Rattle.core_laws.specs.Waking.{taker, speaker, receiver_of, sender_of}

only : (x i : ℕ) → i < length (x ∷ []) → get_or (x ∷ []) i 0 ≡ x
only x zero h = refl
only x (suc i) h = absurd (omega arith)

module _ (s : Shape) (ok : IsAccepted s) (t : ℕ) (low : t < tiles_of s) where
  received : (class : Class) → receiver_of s (ejection_channel s t class) ≡ agent_number t (taker class)
  received class = ap (λ (x : Channel). if is_ejection x.kind then agent_number x.tile (taker x.class)
      else agent_number (input_router s (ejection_channel s t class)) Router)
      (encoded s (record { tile = t; class = class; kind = Ejection }) (record { tile = low; kind = tt }))

  sent : (class : Class) → sender_of s (injection_channel s t class) ≡ agent_number t (speaker class)
  sent class = ap (λ (x : Channel). if is_injection x.kind then agent_number x.tile (speaker x.class)
      else agent_number (output_router s (injection_channel s t class)) Router)
      (encoded s (record { tile = t; class = class; kind = Injection }) (record { tile = low; kind = tt }))

  pub receiver_is : (a : Agent) (i : ℕ) → i < length (wiring_of s t a).inputs → receiver_of s (get_or (wiring_of s t a).inputs i 0) ≡ agent_number t a
  receiver_is Processor i h = ap (receiver_of s) (only (ejection_channel s t Reply) i h) ∙ received Reply
  receiver_is Bank i h = ap (receiver_of s) (only (ejection_channel s t Request) i h) ∙ received Request
  receiver_is Router i h =
      let at = input_at s ok t low i h in
      let k = is_input s ok t i low at.0 in
      let x : ℕ = input_channel s t i in
      ap (receiver_of s) at.1
      ∙ ap (λ (b : Bool). if b then agent_number (channel_at s x).tile (taker (channel_at s x).class) else agent_number (input_router s x) Router) k.leads
      ∙ ap (λ (u : ℕ). agent_number u Router) k.router

  pub sender_is : (a : Agent) (o : ℕ) → o < length (wiring_of s t a).outputs → sender_of s (get_or (wiring_of s t a).outputs o 0) ≡ agent_number t a
  sender_is Processor o h = ap (sender_of s) (only (injection_channel s t Request) o h) ∙ sent Request
  sender_is Bank o h = ap (sender_of s) (only (injection_channel s t Reply) o h) ∙ sent Reply
  sender_is Router o h =
      let at = output_at s ok t low o h in
      let k = is_output s t o low at.0 in
      let x : ℕ = output_channel s t o in
      ap (sender_of s) at.1
      ∙ ap (λ (b : Bool). if b then agent_number (channel_at s x).tile (speaker (channel_at s x).class) else agent_number (output_router s x) Router) k.leaves
      ∙ ap (λ (u : ℕ). agent_number u Router) k.router
