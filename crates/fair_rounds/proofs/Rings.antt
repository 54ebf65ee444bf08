-- What a step leaves of a channel.
use Rattle.std.proofs.Common.{◌≡◌, ℕ, ◌+◌, ◌<◌, zero, suc, List, [], ◌∷◌, Some, arith, slice_set, slice_index}
use Rattle.flit_buffer.specs.declared.want.Want.{Want}
use Rattle.flit_buffer.specs.declared.want.Want.TheVariants as want
use Rattle.flit_buffer.specs.Channel as channel
use Rattle.flit_buffer.specs.Places.{Ring, take_from_ring, credit_of_ring}
use Rattle.flit_buffer.specs.Surroundings.{Surroundings, Wiring, ring, no_ring, surroundings_after}

-- a fact of one channel that a change of any channel keeps
pub ring_kept : (P : Ring → Type 0) (f : Ring → Ring) → ((r : Ring) → P r → P (f r)) → (rings : List Ring) (y x : ℕ) → P (ring rings x)
    → P (ring (slice_set rings y (f (ring rings y))) x)
ring_kept P f keeps [] y x p = p
ring_kept P f keeps (r ∷ rings) zero zero p = keeps r p
ring_kept P f keeps (r ∷ rings) zero (suc x) p = p
ring_kept P f keeps (r ∷ rings) (suc y) zero p = p
ring_kept P f keeps (r ∷ rings) (suc y) (suc x) p = ring_kept P f keeps rings y x p

-- credits that are held, and those that are held or on their way back
abbrev pub Held : Ring → Type 0
Held r = 0 < r.channel.held

abbrev pub Comes : Ring → Type 0
Comes r = 0 < r.channel.held + r.channel.returning

abbrev pub First : ℕ → Ring → Type 0
First f r = channel.first_of r.channel.flits ≡ Some f

-- a want that is no put
abbrev pub IsNoPut : Want → Type 0
IsNoPut (want.Put o flit) = ⊥
IsNoPut _ = Unit {0}

-- a want that is a credit, a report or a look
abbrev pub IsIdle : Want → Type 0
IsIdle (want.Take i) = ⊥
IsIdle (want.Put o flit) = ⊥
IsIdle _ = Unit {0}

-- a change of one channel makes this of it
pub ring_made : (P Q : Ring → Type 0) (f : Ring → Ring) → ((r : Ring) → Q r → P (f r)) → (Q no_ring → ⊥) → (rings : List Ring) (x : ℕ) → Q (ring rings x)
    → P (ring (slice_set rings x (f (ring rings x))) x)
ring_made P Q f makes none [] x q = absurd (none q)
ring_made P Q f makes none (r ∷ rings) zero q = makes r q
ring_made P Q f makes none (r ∷ rings) (suc x) q = ring_made P Q f makes none rings x q

module _ (depth : ℕ) (around : Surroundings) (wiring : Wiring) where
  pub held_kept : (w : Want) → IsNoPut w → (x : ℕ) → Held (ring around.rings x) → Held (ring (surroundings_after depth around wiring w).rings x)
  held_kept (want.Take i) plain x p = ring_kept Held (take_from_ring depth) (λ r q. q) around.rings (slice_index wiring.inputs i) x p
  held_kept (want.Put o flit) plain x p = absurd plain
  held_kept (want.Credit o) plain x p = ring_kept Held credit_of_ring (λ r q. omega (arith, q)) around.rings (slice_index wiring.outputs o) x p
  held_kept (want.Access word op) plain x p = p
  held_kept (want.Await word value) plain x p = p

  pub comes_kept : (w : Want) → IsNoPut w → (x : ℕ) → Comes (ring around.rings x) → Comes (ring (surroundings_after depth around wiring w).rings x)
  comes_kept (want.Take i) plain x p = ring_kept Comes (take_from_ring depth) (λ r q. omega (arith, q)) around.rings (slice_index wiring.inputs i) x p
  comes_kept (want.Put o flit) plain x p = absurd plain
  comes_kept (want.Credit o) plain x p = ring_kept Comes credit_of_ring (λ r q. omega (arith, q)) around.rings (slice_index wiring.outputs o) x p
  comes_kept (want.Access word op) plain x p = p
  comes_kept (want.Await word value) plain x p = p

  pub first_kept : (w : Want) → IsIdle w → (f x : ℕ) → First f (ring around.rings x) → First f (ring (surroundings_after depth around wiring w).rings x)
  first_kept (want.Take i) idle f x p = absurd idle
  first_kept (want.Put o flit) idle f x p = absurd idle
  first_kept (want.Credit o) idle f x p = ring_kept (First f) credit_of_ring (λ r q. q) around.rings (slice_index wiring.outputs o) x p
  first_kept (want.Access word op) idle f x p = p
  first_kept (want.Await word value) idle f x p = p
