-- Each agent of each tile has channels of its own.
use Rattle.std.proofs.Common.{◌≡◌, ℕ, zero, suc, ◌<◌, Bool, [], ◌∷◌, length, get_or, refl, sym, ◌∙◌, ap, subst, arith}
use Rattle.std.specs.Prelude.{if◌then◌else◌}
use Rattle.torus.specs.Shape.{Shape, IsAccepted, tiles_of}
use Rattle.torus.specs.declared.shape.Class.{Class}
use Rattle.torus.specs.declared.shape.Class.TheVariants.{Request, Reply}
use Rattle.dateline_route.specs.declared.channel.Channel.{Channel}
use Rattle.dateline_route.specs.declared.channel.Kind.TheVariants.{Injection, Ejection}
use Rattle.channel_number.specs.Order.{channel_count, channel_at}
use Rattle.channel_number.specs.Ports.{injection_channel, ejection_channel, input_channel, output_channel, is_injection, is_ejection, input_router}
use Rattle.channel_number.specs.Ports.{output_router}
use Rattle.channel_number.proofs.Decoding.{encoded}
use Rattle.channel_number.proofs.Orders.{index_below}
use Rattle.channel_number.proofs.Ports.{is_input, is_output}
use Rattle.flit_buffer.specs.Joined.{AreDisjoint}
use Rattle.flit_buffer.specs.Surroundings.{IsWired}
use Rattle.router.proofs.EmptyChannels.{is_wired, input_at, output_at}
use Rattle.tile.specs.declared.agent.Agent.{Agent}
use Rattle.tile.specs.declared.agent.Agent.TheVariants.{Processor, Router, Bank}
use Rattle.tile.specs.Agents.{wiring_of}

-- who receives from an ejection of a class, and who sends into an injection
abbrev taker : Class → Agent
taker Request = Bank
taker Reply = Processor

abbrev sender : Class → Agent
sender Request = Processor
sender Reply = Bank

-- the tile and the agent at a channel's receiving end, and at its sending end
abbrev receiver : Shape → ℕ → ℕ × Agent
receiver s x = if is_ejection (channel_at s x).kind then ((channel_at s x).tile, taker (channel_at s x).class) else (input_router s x, Router)

abbrev origin : Shape → ℕ → ℕ × Agent
origin s x = if is_injection (channel_at s x).kind then ((channel_at s x).tile, sender (channel_at s x).class) else (output_router s x, Router)

only : (x i : ℕ) → i < length (x ∷ []) → get_or (x ∷ []) i 0 ≡ x
only x zero h = refl
only x (suc i) h = absurd (omega arith)

only_wired : (count x y : ℕ) → x < count → y < count → IsWired count (record { inputs = x ∷ []; outputs = y ∷ [] })
only_wired count x y x_in y_in = record {
  inputs_within = λ i h. subst (λ (k : ℕ). k < count) (sym (only x i h)) x_in;
  outputs_within = λ o h. subst (λ (k : ℕ). k < count) (sym (only y o h)) y_in;
  inputs_apart = λ i j h k ne e. ne (omega arith);
  outputs_apart = λ i j h k ne e. ne (omega arith);
}

module _ (s : Shape) (ok : IsAccepted s) (t : ℕ) (low : t < tiles_of s) where
  pub injection_below : (class : Class) → injection_channel s t class < channel_count s
  injection_below class = index_below s (record { tile = t; class = class; kind = Injection }) (record { tile = low; kind = tt })

  pub ejection_below : (class : Class) → ejection_channel s t class < channel_count s
  ejection_below class = index_below s (record { tile = t; class = class; kind = Ejection }) (record { tile = low; kind = tt })

  pub wired : (a : Agent) → IsWired (channel_count s) (wiring_of s t a)
  wired Processor = only_wired (channel_count s) (ejection_channel s t Reply) (injection_channel s t Request) (ejection_below Reply) (injection_below Request)
  wired Router = is_wired s ok t low
  wired Bank = only_wired (channel_count s) (ejection_channel s t Request) (injection_channel s t Reply) (ejection_below Request) (injection_below Reply)

  received : (class : Class) → receiver s (ejection_channel s t class) ≡ (t, taker class)
  received class = ap (λ (x : Channel). if is_ejection x.kind then (x.tile, taker x.class) else (input_router s (ejection_channel s t class), Router))
      (encoded s (record { tile = t; class = class; kind = Ejection }) (record { tile = low; kind = tt }))

  sent : (class : Class) → origin s (injection_channel s t class) ≡ (t, sender class)
  sent class = ap (λ (x : Channel). if is_injection x.kind then (x.tile, sender x.class) else (output_router s (injection_channel s t class), Router))
      (encoded s (record { tile = t; class = class; kind = Injection }) (record { tile = low; kind = tt }))

  -- the agent at an input's receiving end, and at an output's sending end, is the one whose it is
  input_is : (a : Agent) (i : ℕ) → i < length (wiring_of s t a).inputs → receiver s (get_or (wiring_of s t a).inputs i 0) ≡ (t, a)
  input_is Processor i h = ap (receiver s) (only (ejection_channel s t Reply) i h) ∙ received Reply
  input_is Bank i h = ap (receiver s) (only (ejection_channel s t Request) i h) ∙ received Request
  input_is Router i h =
      let at = input_at s ok t low i h in
      let k = is_input s ok t i low at.0 in
      let x : ℕ = input_channel s t i in
      ap (receiver s) at.1
      ∙ ap (λ (b : Bool). if b then ((channel_at s x).tile, taker (channel_at s x).class) else (input_router s x, Router)) k.leads
      ∙ ap (λ (u : ℕ). let p : ℕ × Agent = (u, Router) in p) k.router

  output_is : (a : Agent) (o : ℕ) → o < length (wiring_of s t a).outputs → origin s (get_or (wiring_of s t a).outputs o 0) ≡ (t, a)
  output_is Processor o h = ap (origin s) (only (injection_channel s t Request) o h) ∙ sent Request
  output_is Bank o h = ap (origin s) (only (injection_channel s t Reply) o h) ∙ sent Reply
  output_is Router o h =
      let at = output_at s ok t low o h in
      let k = is_output s t o low at.0 in
      let x : ℕ = output_channel s t o in
      ap (origin s) at.1
      ∙ ap (λ (b : Bool). if b then ((channel_at s x).tile, sender (channel_at s x).class) else (output_router s x, Router)) k.leaves
      ∙ ap (λ (u : ℕ). let p : ℕ × Agent = (u, Router) in p) k.router

pub apart : (s : Shape) → IsAccepted s → (t u : ℕ) (a b : Agent) → t < tiles_of s → u < tiles_of s → ((u ≡ t) × (b ≡ a) → ⊥)
    → AreDisjoint (wiring_of s t a) (wiring_of s u b)
apart s ok t u a b low small other = record {
  inputs = λ i j h k e. meets (sym (input_is s ok u small b j k) ∙ (ap (receiver s) (sym e) ∙ input_is s ok t low a i h));
  outputs = λ i j h k e. meets (sym (output_is s ok u small b j k) ∙ (ap (origin s) (sym e) ∙ output_is s ok t low a i h));
}
  where
    meets : (◌≡◌ {A = ℕ × Agent} (u, b) (t, a)) → ⊥
    meets e = other (ap (λ (p : ℕ × Agent). p.0) e, ap (λ (p : ℕ × Agent). p.1) e)
