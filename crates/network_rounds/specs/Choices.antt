-- The choices of a network in the order of a round, in groups.
use Rattle.std.specs.Prelude.{ℕ, ◌==◌, if◌then◌else◌, List, [], ◌∷◌, ◌++◌, map, length, Option, Some, None}
use Rattle.std.specs.Prelude.{Bool, nat_lt, filter}
use Rattle.std.specs.Prelude.{slice_get, slice_index, option_to_list}
use Rattle.std.specs.List.{flat_map, range_with_len}
use Rattle.network_judge.specs.declared.table.Kind.{Kind}
use Rattle.network_judge.specs.Table.{is_sender, is_receiver}
use Rattle.network_machine.specs.declared.moves.Move.{Move}
use Rattle.network_machine.specs.declared.moves.Move.TheVariants.{More, Take, Put, Accept, Credit}
use Rattle.network_rounds.specs.declared.choices.Part.{Part}
use Rattle.network_rounds.specs.declared.choices.Part.TheVariants as part

-- the choice that a channel has in a part, if any; behind each channel stands the router of a number
abbrev pub choice_in_part : List Kind → List ℕ → Part → ℕ → Option Move
choice_in_part kinds routers part.Senders x =
    if is_sender (slice_get kinds x) then Some (More x) else None
choice_in_part kinds routers part.Takes x =
    if is_receiver (slice_get kinds x) then None else Some (Take x)
choice_in_part kinds routers (part.Puts router) x =
    if is_receiver (slice_get kinds x) then None
    else (if slice_index routers x == router then Some (Put x) else None)
choice_in_part kinds routers part.Receivers x =
    if is_receiver (slice_get kinds x) then Some (Accept x) else None
choice_in_part kinds routers part.Credits x = Some (Credit x)

-- the choices of a part, by channels
abbrev pub group_of : List Kind → List ℕ → Part → List Move
group_of kinds routers of =
    flat_map (λ x. option_to_list (choice_in_part kinds routers of x)) (range_with_len 0 (length kinds))

-- the parts of a round, with so many routers: senders go on, routers take, one router after the other
-- puts, receivers take, and credits come back
abbrev pub parts_of : ℕ → List Part
parts_of routers = part.Senders ∷ part.Takes ∷ (map (λ router. part.Puts router)
    (range_with_len 0 routers) ++ part.Receivers ∷ part.Credits ∷ [])

-- whether a group has choices
abbrev pub has_choices : List Move → Bool
has_choices group = nat_lt 0 (length group)

-- the choices of all channels, with so many routers: the groups that have choices
abbrev pub groups_of : List Kind → List ℕ → ℕ → List (List Move)
groups_of kinds routers count = filter has_choices (map (group_of kinds routers) (parts_of count))
