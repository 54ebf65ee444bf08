-- An agent with one input and one output: its ports over empty channels, and that its channels are there.
use Rattle.std.proofs.Common.{◌≡◌, ℕ, zero, suc, ◌+◌, ◌*◌, ◌%◌, ◌<◌, ◌∙◌, List, [], ◌∷◌, sym, ap, arith}
use Rattle.std.proofs.lemmas.List.{get_or-replicate, length-replicate}
use Rattle.std.specs.Prelude.{slice_index, replicate}
use Rattle.flit_buffer.specs.Ends.{SendingEnd, ReceivingEnd}
use Rattle.flit_buffer.specs.Places.{empty_ring, sending, receiving}
use Rattle.flit_buffer.specs.Surroundings.{Surroundings, Wiring, ring, no_ring, IsWired, ports_of}
use Rattle.flit_buffer.specs.Wants.{PortEnds}

only_one : (x i count : ℕ) → i < 1 → x < count → slice_index (x ∷ []) i < count
only_one x zero count h low = low
only_one x (suc i) count h low = absurd (omega arith)

-- of so many channels, the number of the input's and that of the output's
module _ (count e x : ℕ) (e_low : e < count) (x_low : x < count) where
  abbrev pub wiring : Wiring
  wiring = record { inputs = e ∷ []; outputs = x ∷ [] }

  pub is_wired : IsWired count wiring
  is_wired = record {
    inputs_within = λ i h. only_one e i count h e_low;
    outputs_within = λ o h. only_one x o count h x_low;
    inputs_apart = λ i j h k ne same. ne (omega (arith, h, k));
    outputs_apart = λ i j h k ne same. ne (omega (arith, h, k));
  }

  module _ (depth : ℕ) (words : List ℕ) (some : 0 < depth) where
    around : Surroundings
    around = record { rings = replicate count (empty_ring depth); words = words }

    empty_at : (y : ℕ) → y < count → ring around.rings y ≡ empty_ring depth
    unfolding around
    empty_at y h = get_or-replicate count y (empty_ring depth) no_ring h

    new_sending : ℕ → ℕ → SendingEnd
    new_sending base next = record { base = base; depth = depth; next = next; credits = depth }

    first_place : (0 + 0) % depth ≡ 0
    first_place = omega arith

    pub ports_shown : record {
      inputs = record { base = e * depth; depth = depth; next = 0 } ∷ [];
      outputs = record { base = x * depth; depth = depth; next = 0; credits = depth } ∷ [];
      words = count * depth;
    } ≡ ports_of depth (record { rings = replicate count (empty_ring depth); words = words }) wiring
    unfolding around new_sending
    ports_shown =
        let mk : ReceivingEnd → SendingEnd → ℕ → PortEnds = λ i o w. record { inputs = i ∷ []; outputs = o ∷ []; words = w } in
        let input : receiving (e * depth) depth (empty_ring depth) ≡ receiving (e * depth) depth (ring around.rings e) =
        ap (receiving (e * depth) depth) (sym (empty_at e e_low)) in
        let output : new_sending (x * depth) 0 ≡ sending (x * depth) depth (ring around.rings x) =
        ap (new_sending (x * depth)) (sym first_place) ∙ ap (sending (x * depth) depth) (sym (empty_at x x_low)) in
        ap (λ i. mk i (new_sending (x * depth) 0) (count * depth)) input
        ∙ ap (λ o. mk (receiving (e * depth) depth (ring around.rings e)) o (count * depth)) output
        ∙ ap (λ n. mk (receiving (e * depth) depth (ring around.rings e)) (sending (x * depth) depth (ring around.rings x)) (n * depth))
        (sym (length-replicate count (empty_ring depth)))
