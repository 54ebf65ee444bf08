-- Arbiters: which of the heads that ask for an output are attempted in a round.
use Rattle.std.specs.Prelude.{◌≡◌, ℕ, ◌<◌, ◌==◌, ◌&&◌, ◌||◌, nat_le, nat_lt, if◌then◌else◌, Bool, false}
use Rattle.std.specs.Prelude.{List, [], ◌∷◌, map, filter, length, slice_index, slice_index_or, slice_set}
use Rattle.std.specs.Prelude.{Option, Some, None, option_to_list, replicate, find, codes}
use Rattle.std.specs.List.{flat_map}
use Rattle.std.specs.Str.{bytes_eq}
use Rattle.network_machine.specs.declared.moves.Move.{Move}
use Rattle.network_machine.specs.declared.moves.Move.TheVariants.{Send, More, Take, Put, Accept}
use Rattle.network_machine.specs.declared.moves.Move.TheVariants.{Credit}
use Rattle.network_machine.specs.Asked.{asked}
use Rattle.network_machine.specs.Moves.{move_channel}
use Rattle.network_machine.specs.Machine.{NetworkMachineSpec}
use Rattle.network_rounds.specs.declared.arbiter.Arbiter.{Arbiter}
use Rattle.network_rounds.specs.declared.arbiter.Arbiter.TheVariants.{Rotating, Turn}
use Rattle.network_rounds.specs.declared.arbiter.Attempt.{Attempt}
use Rattle.network_rounds.specs.declared.arbiter.Grants.{Grants}

-- the word that names an arbiter
abbrev pub arbiter_word : Arbiter → List ℕ
arbiter_word Rotating = codes "rotating"
arbiter_word Turn = codes "turn"

-- the arbiter that a word names
abbrev pub arbiter_named : List ℕ → Option Arbiter
arbiter_named word = find (λ by. bytes_eq word (arbiter_word by)) (Rotating ∷ Turn ∷ [])

-- The order of inputs behind the one that was granted last: those above it, rising, and then the
-- others, rising (round robin: Dally and Towles, Principles and Practices of Interconnection
-- Networks, 2004, chapter 18). Whether one comes before another in it.
abbrev pub comes_before : ℕ → ℕ → ℕ → Bool
comes_before last x z =
    if nat_lt last x then nat_le z last || nat_lt x z else nat_le z last && nat_lt x z

-- the first of two inputs in this order, where there may be but one
abbrev pub nearer : ℕ → Option ℕ → ℕ → ℕ
nearer last None x = x
nearer last (Some z) x = if comes_before last x z then x else z

-- the first of some inputs, and of one besides, if any
abbrev pub first_among : ℕ → Option ℕ → List ℕ → Option ℕ
first_among last first [] = first
first_among last first (x ∷ inputs) = first_among last (Some (nearer last first x)) inputs

-- the first of some inputs behind the one that was granted last, if there is any
abbrev pub first_behind : ℕ → List ℕ → Option ℕ
first_behind last inputs = first_among last None inputs

-- the output that a choice asks for: that of a head, which is put
abbrev pub output_asked : NetworkMachineSpec → Move → Option ℕ
output_asked m (Send p) = None
output_asked m (More x) = None
output_asked m (Take x) = None
output_asked m (Put x) = asked m x
output_asked m (Accept x) = None
output_asked m (Credit x) = None

-- whether it is this channel
abbrev pub names_channel : ℕ → Option ℕ → Bool
names_channel y None = false
names_channel y (Some z) = z == y

-- the inputs of those choices that ask for an output
abbrev pub asking : NetworkMachineSpec → List Move → ℕ → List ℕ
asking m moves y = map move_channel (filter (λ of. names_channel y (output_asked m of)) moves)

-- the first of them, by the input that each channel was granted to last
abbrev pub first_asking : NetworkMachineSpec → List ℕ → List Move → ℕ → Option ℕ
first_asking m lasts moves y = first_behind (slice_index lasts y) (asking m moves y)

-- a choice that nothing is granted to
abbrev pub plain : Move → Attempt
plain of = record { of = of; output = None }

-- a choice that asks for an output, or for none, as it is attempted: a head only if it comes first
abbrev pub head_attempt : (ℕ → Option ℕ) → Move → Option ℕ → Option Attempt
head_attempt firsts of None = Some (plain of)
head_attempt firsts of (Some y) = if names_channel (move_channel of) (firsts y)
    then Some (record { of = of; output = Some y }) else None

-- a choice as an arbiter has it attempted, if it does
abbrev pub attempt_by : Arbiter → NetworkMachineSpec → (ℕ → Option ℕ) → Move → Option Attempt
attempt_by Rotating m firsts of = head_attempt firsts of (output_asked m of)
attempt_by Turn m firsts of = Some (plain of)

-- those of some choices that an arbiter has attempted, by the input that each channel was granted to last
abbrev pub attempts_by : Arbiter → NetworkMachineSpec → List ℕ → List Move → List Attempt
attempts_by by m lasts moves =
    flat_map (λ of. option_to_list (attempt_by by m (first_asking m lasts moves) of)) moves

-- how far the order of a group is turned in the round behind so many
abbrev pub turn_by : Arbiter → ℕ → ℕ
turn_by Rotating before = 0
turn_by Turn before = before

-- the input that each channel was granted to last, once an input is granted one, if it is
abbrev pub granted_at : List ℕ → ℕ → Option ℕ → List ℕ
granted_at lasts x None = lasts
granted_at lasts x (Some y) = slice_set lasts y x

-- and once an attempt is made
abbrev pub granted_to : List ℕ → Attempt → List ℕ
granted_to lasts a = granted_at lasts (move_channel a.of) a.output

-- before the first round: behind an input above all
abbrev pub no_grants : ℕ → List ℕ
no_grants channels = replicate channels channels

-- the first of the inputs that ask for each output is noted
abbrev pub HasFirsts : NetworkMachineSpec → List ℕ → List Move → List (Option ℕ) → Type 0
HasFirsts m lasts moves firsts = (y : ℕ) → y < length m.channels
    → slice_index_or firsts y None ≡ first_asking m lasts moves y

-- what a program keeps fits the channels of a machine
pub record AreGrants {A : Type 0} (m : NetworkMachineSpec) (g : Grants A) : Type 0 where
  pub lasts : length g.lasts.items ≡ length m.channels
  pub firsts : length g.firsts.items ≡ length m.channels
