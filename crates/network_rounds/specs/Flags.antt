-- Which choices of a round may be enabled, told by what stands at their channels.
use Rattle.std.specs.Prelude.{◌≡◌, ◌⊎◌, ℕ, ◌<◌, ◌-◌, ◌^◌, Bool, false, true, List, length, Vec}
use Rattle.std.specs.Prelude.{slice_index_or, slice_set}
use Rattle.std.specs.List.{flat_map}
use Rattle.network_machine.specs.declared.free.Lets.{Lets}
use Rattle.network_machine.specs.declared.moves.Move.{Move}
use Rattle.network_machine.specs.declared.moves.Move.TheVariants.{Send, More, Take, Put, Accept}
use Rattle.network_machine.specs.declared.moves.Move.TheVariants.{Credit}
use Rattle.network_machine.specs.Moves.{move_channel}
use Rattle.network_machine.specs.Machine.{NetworkMachineSpec, Prevents, IsKept}
use Rattle.network_rounds.specs.declared.flags.Places.{Places}
use Rattle.network_rounds.specs.declared.flags.Flags.{Flags}

-- the choices of some groups, in the order of a round in which each group begins with its first
abbrev pub choices_of : {A : Type 0} → List (Vec Move A) → List Move
choices_of groups = flat_map (λ group. group.items) groups

-- the place of no choice
abbrev pub no_place : ℕ
no_place = 2 ^ 64 - 1

-- a channel without choices
abbrev pub nowhere : Places
nowhere = record {
  more = no_place;
  take = no_place;
  put = no_place;
  accept = no_place;
  credit = no_place;
}

-- the place that a channel's places give for a choice of it; a new packet has none
abbrev pub place_in : Places → Move → ℕ
place_in p (Send q) = no_place
place_in p (More x) = p.more
place_in p (Take x) = p.take
place_in p (Put x) = p.put
place_in p (Accept x) = p.accept
place_in p (Credit x) = p.credit

-- the flags once those at a channel's places are told by its state
abbrev pub told_places : List Bool → Places → Lets → List Bool
told_places up p lets = slice_set (slice_set (slice_set (slice_set (slice_set up
    p.more lets.more) p.take lets.take) p.put lets.put) p.accept lets.accept) p.credit lets.credit

-- the place that is noted for a choice
abbrev pub place_of : List Places → Move → ℕ
place_of places of = place_in (slice_index_or places (move_channel of) nowhere) of

-- a place that is noted for a choice is one of it
abbrev pub PointTo : List Places → List Move → Type 0
PointTo places choices = (of d : Move) → place_of places of < length choices
    → slice_index_or choices (place_of places of) d ≡ of

-- a place that is noted for a choice points to it in a list, or is that of no choice
abbrev pub AreNotedIn : List Places → List Move → Type 0
AreNotedIn places choices = (of d : Move) → (place_of places of ≡ no_place)
    ⊎ ((place_of places of < length choices) × (slice_index_or choices (place_of places of) d ≡ of))

-- a choice whose flag is down stands at its noted place; its channel keeps it, or that is untold
pub record AreFlagsBut {A : Type 0} (untold : Move → Type 0) (m : NetworkMachineSpec)
    (choices : List Move) (f : Flags A) : Type 0 where
  pub size : length f.up.items ≡ length choices
  pub channels : length f.places.items ≡ length m.channels
  pub point : PointTo f.places.items choices
  pub noted : (k : ℕ) (d : Move) → k < length choices → slice_index_or f.up.items k true ≡ false
      → place_of f.places.items (slice_index_or choices k d) ≡ k
  pub kept : (k : ℕ) (d : Move) → k < length choices → slice_index_or f.up.items k true ≡ false
      → untold (slice_index_or choices k d) ⊎ IsKept m (slice_index_or choices k d)

-- each choice whose flag is down is kept from being made by what stands at its channel
abbrev pub AreFlags : {A : Type 0} → NetworkMachineSpec → List Move → Flags A → Type 0
AreFlags m choices f = AreFlagsBut (λ of. ⊥) m choices f

-- of some choices none whose flag is down is made by an event
abbrev pub AreIdleWhereDown : NetworkMachineSpec → List Move → List Bool → Type 0
AreIdleWhereDown m choices up = (k : ℕ) (d : Move) → k < length choices
    → slice_index_or up k true ≡ false → Prevents m (slice_index_or choices k d)
