-- The word that a take finds in the row is the first flit of its channel, or 0 where that has none.
use Rattle.std.proofs.Common.{◌≡◌, ℕ, ◌+◌, ◌*◌, ◌%◌, ◌<◌, List, [], ◌∷◌, length, get_or, refl, sym, ◌∙◌, ap, arith, mod-eq_of_lt}
use Rattle.std.proofs.lemmas.List.{get_or-map}
use Rattle.flit_buffer.specs.Ends.{ReceivingEnd}
use Rattle.flit_buffer.specs.Places.{receiving}
use Rattle.flit_buffer.specs.Surroundings.{Surroundings, Wiring, ring, ports_of, AreRings, ShowsAll, IsWired}
use Rattle.flit_buffer.specs.Tries.{take_place}
use Rattle.flit_buffer.specs.Wants.{input, no_input}
use Rattle.core_laws.specs.Asks.{flit_found}
use Rattle.core_laws.specs.Delivery.{next_flit}

-- the first of a list's flits; 0 where there is none
first_flit : (flits : List ℕ) → get_or flits 0 0 ≡ next_flit flits
first_flit [] = refl
first_flit (flit ∷ flits) = refl

module _ (row : List ℕ) (depth : ℕ) (around : Surroundings) (are : AreRings depth around) (shows : ShowsAll row depth around) where
  -- the place that is emptied next of a channel
  at_front : (x : ℕ) → x < length around.rings → get_or row (x * depth + (ring around.rings x).front) 0 ≡ flit_found around x
  at_front x x_in =
      let r = are x x_in in
      let first : ((ring around.rings x).front + 0) % depth ≡ (ring around.rings x).front = ap (λ (n : ℕ). n % depth) (omega arith) ∙ mod-eq_of_lt r.front in
      ap (λ (n : ℕ). get_or row (x * depth + n) 0) (sym first)
      ∙ ((shows.rings x x_in).places 0 (omega (arith, r.front)) ∙ first_flit (ring around.rings x).channel.flits)

  -- and at an input of an agent
  pub input_finds : (wiring : Wiring) → IsWired (length around.rings) wiring → (i : ℕ) → i < length wiring.inputs
      → get_or row (take_place (input (ports_of depth around wiring) i)) 0 ≡ flit_found around (get_or wiring.inputs i 0)
  input_finds wiring wired i i_in =
      ap (λ (r : ReceivingEnd). get_or row (take_place r) 0)
      (get_or-map (λ x. receiving (x * depth) depth (ring around.rings x)) wiring.inputs i 0 no_input i_in)
      ∙ at_front (get_or wiring.inputs i 0) (wired.inputs_within i i_in)
