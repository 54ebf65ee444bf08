-- A router wants ends of channels only, which leaves the words.
use Rattle.std.proofs.Common.{◌≡◌, ℕ, Bool, true, false, Option, Some, None, refl, sym, subst, if◌then◌else◌}
use Rattle.std.specs.Prelude.{nat_lt}
use Rattle.std.proofs.lemmas.Option.{same_Some}
use Rattle.torus.specs.Shape.{Shape, dims_of}
use Rattle.torus.specs.declared.step.Choice.{Choice}
use Rattle.torus.specs.declared.step.Choice.TheVariants.{Send, Take, TakeFrom, Put, Credit, CreditOf, Serve, Done, Look}
use Rattle.flit_buffer.specs.declared.want.Want.{Want}
use Rattle.flit_buffer.specs.declared.want.Want.TheVariants as want
use Rattle.flit_buffer.specs.Surroundings.{Surroundings, Wiring, surroundings_after}
use Rattle.packet.specs.Flits.{head_of}
use Rattle.router.specs.Table.{RouterState, router_wants, wants_to_take, wants_to_put, latch_of, output_for}
use Rattle.channel_number.specs.Ports.{port_count}
use Rattle.core_laws.proofs.AgentSteps.{option_map_some}

-- a want for an end of a channel leaves the words
abbrev pub IsOfChannel : Want → Type 0
IsOfChannel (want.Take i) = Unit {0}
IsOfChannel (want.Put o flit) = Unit {0}
IsOfChannel (want.Credit o) = Unit {0}
IsOfChannel (want.Access word o) = ⊥
IsOfChannel (want.Await word value) = ⊥

pub channel_words : (depth : ℕ) (around : Surroundings) (wiring : Wiring) (w : Want) → IsOfChannel w
    → (surroundings_after depth around wiring w).words ≡ around.words
channel_words depth around wiring (want.Take i) h = refl
channel_words depth around wiring (want.Put o flit) h = refl
channel_words depth around wiring (want.Credit o) h = refl
channel_words depth around wiring (want.Access word o) h = absurd h
channel_words depth around wiring (want.Await word value) h = absurd h

pub if_what : {A : Type 0} (b : Bool) (o : Option A) (y : A) → (if b then o else None) ≡ Some y → o ≡ Some y
if_what true o y h = h
if_what false o y h = cc

takes_of : (s : Shape) (t i : ℕ) (latch : Option ℕ) (w : Want) → wants_to_take s t i latch ≡ Some w → w ≡ want.Take i
takes_of s t i None w h = sym (same_Some _ _ h)
takes_of s t i (Some flit) w h = cc

puts_of : (s : Shape) (t : ℕ) (r : RouterState) (i : ℕ) (latch : Option ℕ) (w : Want) → wants_to_put s t r i latch ≡ Some w
    → (flit : ℕ) × (o : ℕ) × (latch ≡ Some flit) × (w ≡ want.Put o flit)
puts_of s t r i None w h = cc
puts_of s t r i (Some flit) w h =
    let f = option_map_some (λ (o : ℕ). want.Put o flit) (output_for s t r i (head_of flit)) w h in (flit, f.0, refl, sym f.2)

pub router_of_channel : (s : Shape) (t : ℕ) (r : RouterState) (choice : Choice) (w : Want) → router_wants s t r choice ≡ Some w → IsOfChannel w
router_of_channel s t r (TakeFrom i) w h =
    subst IsOfChannel (sym (takes_of s t i (latch_of r i) w (if_what (nat_lt i (port_count (dims_of s))) (wants_to_take s t i (latch_of r i)) w h))) tt
router_of_channel s t r (Put i) w h =
    let p = puts_of s t r i (latch_of r i) w (if_what (nat_lt i (port_count (dims_of s))) (wants_to_put s t r i (latch_of r i)) w h) in
    subst IsOfChannel (sym p.3) tt
router_of_channel s t r (CreditOf o) w h =
    subst IsOfChannel (same_Some _ _ (if_what (nat_lt o (port_count (dims_of s))) (Some (want.Credit o)) w h)) tt
router_of_channel s t r Send w h = cc
router_of_channel s t r Take w h = cc
router_of_channel s t r Credit w h = cc
router_of_channel s t r Serve w h = cc
router_of_channel s t r Done w h = cc
router_of_channel s t r Look w h = cc
