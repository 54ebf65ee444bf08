-- Each channel has a receiving and a sending end among those of all tiles' agents, and no other end of its places.
use Rattle.std.proofs.Common.{◌≡◌, ℕ, ◌<◌, Bool, true, false, List, length, refl, sym, ◌∙◌, arith, get_or}
use Rattle.std.proofs.lemmas.List.FromFn.{get_or-map-range_with_len, length-map-range_with_len}
use Rattle.torus.specs.Shape.{Shape, IsAccepted, tiles_of, dims_of}
use Rattle.torus.specs.declared.shape.Class.{Class}
use Rattle.torus.specs.declared.shape.Class.TheVariants.{Request, Reply}
use Rattle.channel_number.specs.Order.{channel_count, channel_at}
use Rattle.channel_number.specs.Ports.{port_count, injection_channel, ejection_channel, input_channel, output_channel, is_injection, is_ejection}
use Rattle.channel_number.specs.Ports.{input_router, input_port, output_router, output_port}
use Rattle.channel_number.proofs.Ports.{has_input, has_output}
use Rattle.core_laws.proofs.TorusEnds.{is_ejection_at, is_injection_at}
use Rattle.core_laws.specs.Agent.{Agent}
use Rattle.core_laws.specs.Agent.TheVariants.{Processor, Router, Bank}
use Rattle.core_laws.specs.Agents.{wiring_of}

-- a number stands in a list
abbrev pub Stands : ℕ → List ℕ → Type 0
Stands x xs = (i : ℕ) × (i < length xs) × (get_or xs i 0 ≡ x)

-- an agent of a tile has the channel at an input
pub record HasReceiver (s : Shape) (x : ℕ) : Type 0 where
  pub tile : ℕ
  pub agent : Agent
  pub here : tile < tiles_of s
  pub there : Stands x (wiring_of s tile agent).inputs

pub record HasSender (s : Shape) (x : ℕ) : Type 0 where
  pub tile : ℕ
  pub agent : Agent
  pub here : tile < tiles_of s
  pub there : Stands x (wiring_of s tile agent).outputs

module _ (s : Shape) (ok : IsAccepted s) (x : ℕ) (below : x < channel_count s) where
  ejected : (t : ℕ) (class : Class) → t < tiles_of s → x ≡ ejection_channel s t class → HasReceiver s x
  ejected t Request t_in is = record { tile = t; agent = Bank; here = t_in; there = (0, omega arith, sym is) }
  ejected t Reply t_in is = record { tile = t; agent = Processor; here = t_in; there = (0, omega arith, sym is) }

  injected : (t : ℕ) (class : Class) → t < tiles_of s → x ≡ injection_channel s t class → HasSender s x
  injected t Request t_in is = record { tile = t; agent = Processor; here = t_in; there = (0, omega arith, sym is) }
  injected t Reply t_in is = record { tile = t; agent = Bank; here = t_in; there = (0, omega arith, sym is) }

  in_by : (b : Bool) → is_ejection (channel_at s x).kind ≡ b → HasReceiver s x
  in_by true e = let k = is_ejection_at s x below e in ejected k.tile k.class k.here k.same
  in_by false e =
      let k = has_input s ok x below e in
      let t : ℕ = input_router s x in
      let i : ℕ = input_port s x in
      let n = length-map-range_with_len (input_channel s t) 0 (port_count (dims_of s)) in
      record {
        tile = t;
        agent = Router;
        here = k.tile;
        there = (i, omega (arith, k.port, n), get_or-map-range_with_len (input_channel s t) 0 (port_count (dims_of s)) i i 0 k.port (omega arith) ∙ k.same);
      }

  pub has_receiver : HasReceiver s x
  has_receiver = in_by (is_ejection (channel_at s x).kind) refl

  out_by : (b : Bool) → is_injection (channel_at s x).kind ≡ b → HasSender s x
  out_by true e = let k = is_injection_at s x below e in injected k.tile k.class k.here k.same
  out_by false e =
      let k = has_output s x below e in
      let t : ℕ = output_router s x in
      let o : ℕ = output_port s x in
      let n = length-map-range_with_len (output_channel s t) 0 (port_count (dims_of s)) in
      record {
        tile = t;
        agent = Router;
        here = k.tile;
        there = (o, omega (arith, k.port, n), get_or-map-range_with_len (output_channel s t) 0 (port_count (dims_of s)) o o 0 k.port (omega arith) ∙ k.same);
      }

  pub has_sender : HasSender s x
  has_sender = out_by (is_injection (channel_at s x).kind) refl
