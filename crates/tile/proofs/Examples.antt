-- A worked tile of two, against the definitions.
use Rattle.std.proofs.Common.{◌≡◌, true, [], ◌∷◌, Some, None, refl, map}
use Rattle.std.specs.Prelude.{is_some, option_map}
use Rattle.torus.specs.Shape.{Shape}
use Rattle.torus.specs.declared.step.Choice.TheVariants.{Take}
use Rattle.router.specs.Table.{empty_router}
use Rattle.home_bank.specs.Beginning.{empty_bank}
use Rattle.net_interface.specs.Beginning.{first_processor}
use Rattle.tile.specs.declared.agent.Agent.TheVariants.{Bank}
use Rattle.tile.specs.Tile.{Design, TileState}
use Rattle.tile.specs.Agents.{TilePlace, wiring_of, agent_absorbed, tile_next_op}
use Rattle.tile.specs.Beginning.{new_tile}

abbrev two_tiles : Shape
two_tiles = record { radices = 2 ∷ []; datelines = 1 ∷ [] }

abbrev design : Design
design = record { shape = two_tiles; depth = 4; words = 8 }

abbrev tile : TileState
tile = record { processor = first_processor 4 []; router = empty_router 10; bank = empty_bank }

-- tile 1 before any step
abbrev place : TilePlace
place = new_tile design 1 tile

-- the bank of tile 1 takes requests from channel 22 and puts replies into channel 21
bank_has_its_channels : wiring_of two_tiles 1 Bank ≡ record { inputs = 22 ∷ []; outputs = 21 ∷ [] }
bank_has_its_channels = refl

-- so its input has the places from 88 on, and its output those from 84 on
bank_has_its_places : (map (λ r. r.base) place.bank.ports.inputs ≡ 88 ∷ [])
    × (map (λ s. s.base) place.bank.ports.outputs ≡ 84 ∷ [])
bank_has_its_places = (refl, refl)

-- the bank takes the head flit of a request, and the processor stays as it was
processor_stays : option_map (λ p. p.processor) (agent_absorbed place Bank Take 11819697222033866752)
    ≡ Some place.processor
processor_stays = refl

-- agent 5 is the bank of tile 1, which has a word operation for its take; agent 2 is the bank of tile 0
own_attempt_is_tried : is_some (tile_next_op place (record { agent = 5; choice = Take })) ≡ true
own_attempt_is_tried = refl

other_attempt_is_not : tile_next_op place (record { agent = 2; choice = Take }) ≡ None
other_attempt_is_not = refl
