-- What a machine's fields stand for, and what is true of every machine.
use Rattle.std.specs.Prelude.{◌≡◌, ℕ, ◌<◌, ◌≤◌, List, length, map, Some, slice_get, slice_index}
use Rattle.torus.specs.Shape.{tiles_of}
use Rattle.torus.specs.declared.step.Step.{Step}
use Rattle.script_lines.specs.declared.line.Line.{Line}
use Rattle.script_lines.specs.Lines.{operation_count, total_count}
use Rattle.machine_parts.specs.Room.{home_room}
use Rattle.order_book.specs.RoomyBook.{RoomyBook}
use Rattle.tile.specs.Tile.{Design}
use Rattle.tile.specs.Agents.{TilePlace}
use Rattle.machine_parts.specs.Placed.{PlacedTile}
use Rattle.machine_parts.specs.Core.{Load, design_of, after as state_after_steps}
use Rattle.machine_parts.specs.Seen.{IsShown, state_seen}
use Rattle.machine_parts.specs.Machine.{Core, IsAfter}
use Rattle.machine_parts.specs.ChoicesAsleep.{OtherChoicesSleep}
use Rattle.machine_parts.specs.Routers.{OtherPortsSleep}
use Rattle.machine_parts.specs.Awake.{is_choice_awake}
use Rattle.machine_parts.specs.Ports.{flags_of}
use Rattle.machine_core.specs.declared.machine.Machine.TheInside.{Inside}

-- what the machine is built to
abbrev pub design_in : {A : Type 0} → Inside A → Design
design_in a = record { shape = a.torus; depth = a.depth; words = length a.opening.items }

-- the tiles in their places
abbrev pub places_in : {A : Type 0} → Inside A → List TilePlace
places_in a = map (λ v. v.place) a.tiles.items

abbrev pub core_of : {A : Type 0} → Inside A → Core
core_of a = record {
  shape = a.torus;
  depth = a.depth;
  tags = a.tags;
  opening = a.opening.items;
  allowed = a.allowed.items;
  state = state_seen (design_in a) (places_in a) a.row.items;
  book = a.book.book;
  moves_left = a.left;
}

-- each bank has room for the operations of all scripts that can come to it, and no more
abbrev pub HaveRoom : Load → List PlacedTile → Type 0
HaveRoom l tiles = (b : ℕ) (v : PlacedTile) → slice_get tiles b ≡ Some v
    → v.room ≡ home_room (tiles_of l.shape) b l.scripts

-- the book has room for all that the scripts can ask
pub record HasRoomForScripts (l : Load) (g : RoomyBook) : Type 0 where
  pub issues : (p : ℕ) (lines : List Line) → slice_get l.scripts p ≡ Some lines
      → operation_count lines ≤ slice_index g.issues p
  pub positions : (b : ℕ) → b < tiles_of l.shape
      → home_room (tiles_of l.shape) b l.scripts ≤ slice_index g.positions b
  pub rows : total_count l.scripts ≤ g.rows

-- every machine stands where some list of steps leads from an accepted load; its tiles and its row
-- show the state there; and no choice is enabled there that doesn't count as awake, for its agent or
-- for its router
pub record IsMachine {A : Type 0} (a : Inside A) : Type 0 where
  pub load : Load
  pub steps : List Step
  pub after : IsAfter load (core_of a) steps
  pub seen : IsShown (design_of load) (state_after_steps load steps) (places_in a) a.row.items
  pub banks : HaveRoom load a.tiles.items
  pub room : HasRoomForScripts load a.book
  pub built : a.awake.design ≡ design_of load
  pub sleepers : OtherChoicesSleep (design_of load) (state_after_steps load steps)
      (is_choice_awake a.awake)
  pub routed : a.ports.design ≡ design_of load
  pub ports : OtherPortsSleep (design_of load) (state_after_steps load steps) (flags_of a.ports)
