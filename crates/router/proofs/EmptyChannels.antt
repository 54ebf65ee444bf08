-- A new router's ports are those over empty channels, and its channels are there and different.
use Rattle.std.proofs.Common.{◌≡◌, ℕ, ◌+◌, ◌*◌, ◌%◌, ◌<◌, List, length, map, get_or, sym, ap, ◌∙◌, arith}
use Rattle.std.specs.List.{range_with_len}
use Rattle.std.proofs.lemmas.List.{get_or-map, get_or-replicate, length-map, length-replicate}
use Rattle.std.proofs.lemmas.List.FromFn.{fill_by_all, length-map-range_with_len, get_or-map-range_with_len}
use Rattle.torus.specs.Shape.{Shape, IsAccepted, tiles_of, dims_of}
use Rattle.channel_number.specs.Order.{channel_count}
use Rattle.channel_number.specs.Ports.{port_count, input_channel, output_channel}
use Rattle.channel_number.proofs.Ports.{is_input, is_output, inputs_apart, outputs_apart}
use Rattle.flit_buffer.specs.Ends.{SendingEnd, ReceivingEnd}
use Rattle.flit_buffer.specs.Places.{empty_ring, sending, receiving}
use Rattle.flit_buffer.specs.Surroundings.{Surroundings, ring, no_ring, IsWired, ports_of}
use Rattle.flit_buffer.specs.Wants.{PortEnds, no_input, no_output}
use Rattle.router.specs.Beginning.{router_wiring, empty_surroundings, new_input, new_output, router_ports}

-- the ends of channels at ports, where each end is as it is new
module _ {X : Type 0} (f g : ℕ → X) (channel : ℕ → ℕ) (n : ℕ) (none : X) where
  ends_new : ((i : ℕ) → i < n → f (channel i) ≡ g i) → map g (range_with_len 0 n) ≡ map f (map channel (range_with_len 0 n))
  ends_new each =
      let xs : List ℕ = map channel (range_with_len 0 n) in
      let long : length xs ≡ n = length-map-range_with_len channel 0 n in
      sym (fill_by_all g (map f xs) n none (length-map xs f ∙ long)
      (λ k low. get_or-map f xs k 0 none (omega (arith, long)) ∙ ap f (get_or-map-range_with_len channel 0 n k k 0 low (omega arith)) ∙ each k low))

module _ (s : Shape) (is : IsAccepted s) (t : ℕ) (low : t < tiles_of s) where
  input_below : (i : ℕ) → i < port_count (dims_of s) → input_channel s t i < channel_count s
  input_below i h = let at = is_input s is t i low h in at.below

  output_below : (o : ℕ) → o < port_count (dims_of s) → output_channel s t o < channel_count s
  output_below o h = let at = is_output s t o low h in at.below

  pub input_at : (i : ℕ) → i < length (router_wiring s t).inputs → (i < port_count (dims_of s)) × (get_or (router_wiring s t).inputs i 0 ≡ input_channel s t i)
  input_at i h =
      let small : i < port_count (dims_of s) = omega (arith, length-map-range_with_len (input_channel s t) 0 (port_count (dims_of s))) in
      (small, get_or-map-range_with_len (input_channel s t) 0 (port_count (dims_of s)) i i 0 small (omega arith))

  pub output_at : (o : ℕ) → o < length (router_wiring s t).outputs
      → (o < port_count (dims_of s)) × (get_or (router_wiring s t).outputs o 0 ≡ output_channel s t o)
  output_at o h =
      let small : o < port_count (dims_of s) = omega (arith, length-map-range_with_len (output_channel s t) 0 (port_count (dims_of s))) in
      (small, get_or-map-range_with_len (output_channel s t) 0 (port_count (dims_of s)) o o 0 small (omega arith))

  wired : IsWired (channel_count s) (router_wiring s t)
  wired = record {
    inputs_within = λ i h. let at = input_at i h in omega (arith, at.1, input_below i at.0);
    outputs_within = λ o h. let at = output_at o h in omega (arith, at.1, output_below o at.0);
    inputs_apart = λ i j h k ne e.
        let a = input_at i h in
        let b = input_at j k in
        ne (inputs_apart s is t i t j low a.0 low b.0 (sym a.1 ∙ e ∙ b.1)).1;
    outputs_apart = λ i j h k ne e.
        let a = output_at i h in
        let b = output_at j k in
        ne (outputs_apart s t i t j low a.0 low b.0 (sym a.1 ∙ e ∙ b.1)).1;
  }

  module _ (depth : ℕ) (words : List ℕ) (some : 0 < depth) where
    around : Surroundings
    around = empty_surroundings s depth words

    empty_at : (x : ℕ) → x < channel_count s → ring around.rings x ≡ empty_ring depth
    unfolding around
    empty_at x h = get_or-replicate (channel_count s) x (empty_ring depth) no_ring h

    first_place : (0 + 0) % depth ≡ 0
    first_place = omega arith

    new_sending : ℕ → ℕ → SendingEnd
    new_sending base next = record { base = base; depth = depth; next = next; credits = depth }

    shown : router_ports s t depth ≡ ports_of depth around (router_wiring s t)
    unfolding around new_sending
    shown =
        let mk : List ReceivingEnd → List SendingEnd → ℕ → PortEnds = λ x y z. record { inputs = x; outputs = y; words = z } in
        let n : ℕ = port_count (dims_of s) in
        let into : ℕ → ReceivingEnd = λ x. receiving (x * depth) depth (ring around.rings x) in
        let out : ℕ → SendingEnd = λ x. sending (x * depth) depth (ring around.rings x) in
        let ins : (router_ports s t depth).inputs ≡ (ports_of depth around (router_wiring s t)).inputs =
        ends_new into (new_input s t depth) (input_channel s t) n no_input
        (λ i h. ap (receiving (input_channel s t i * depth) depth) (empty_at (input_channel s t i) (input_below i h))) in
        let outs : (router_ports s t depth).outputs ≡ (ports_of depth around (router_wiring s t)).outputs =
        ends_new out (new_output s t depth) (output_channel s t) n no_output
        (λ o h. ap (sending (output_channel s t o * depth) depth) (empty_at (output_channel s t o) (output_below o h))
        ∙ ap (new_sending (output_channel s t o * depth)) first_place) in
        ap (λ x. mk x (router_ports s t depth).outputs (router_ports s t depth).words) ins
        ∙ ap (λ y. mk (ports_of depth around (router_wiring s t)).inputs y (router_ports s t depth).words) outs
        ∙ ap (λ z. mk (ports_of depth around (router_wiring s t)).inputs (ports_of depth around (router_wiring s t)).outputs (z * depth))
        (sym (length-replicate (channel_count s) (empty_ring depth)))

pub ports_shown : (s : Shape) → IsAccepted s → (t depth : ℕ) (words : List ℕ) → t < tiles_of s → 0 < depth
    → router_ports s t depth ≡ ports_of depth (empty_surroundings s depth words) (router_wiring s t)
unfolding around
ports_shown s is t depth words low some = shown s is t low depth words some

pub is_wired : (s : Shape) → IsAccepted s → (t : ℕ) → t < tiles_of s → IsWired (channel_count s) (router_wiring s t)
is_wired s is t low = wired s is t low
