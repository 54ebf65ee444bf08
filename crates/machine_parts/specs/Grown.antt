-- The parts of a machine that is handed a line: its tiles, its row, and who counts as awake.
use Rattle.std.specs.Prelude.{◌≡◌, ℕ, ◌+◌, ◌-◌, ◌<◌, ◌≤◌, Bool, true, false, List, length, map, sum_by, slice_set}
use Rattle.script_lines.specs.declared.line.Line.{Line}
use Rattle.script_lines.specs.Lines.{operations_of, mentions_last}
use Rattle.one_order.specs.Following.{left_of}
use Rattle.one_order.specs.ProcessorRecord.{ProcessorRecord}
use Rattle.one_order.specs.ProcessorTable.{processor_with, processor_open}
use Rattle.tile.specs.Agents.{state_of}
use Rattle.tile.specs.Placed.{PlacedTile, with_room, with_processor}
use Rattle.machine_parts.specs.Awake.{Awake, all_roused}
use Rattle.core_laws.specs.Appended.{changed_at}
use Rattle.core_laws.specs.Reopened.{marks}

-- a tile with the line at the end of its processor's script
abbrev pub tile_given : Line → PlacedTile → PlacedTile
tile_given line v = with_processor v (processor_with line v.place.processor.state)

-- with room for so many entries more, or fewer, in its bank
abbrev pub tile_wider : ℕ → PlacedTile → PlacedTile
tile_wider more v = with_room v (v.room + more)

abbrev pub tile_narrower : ℕ → PlacedTile → PlacedTile
tile_narrower fewer v = with_room v (v.room - fewer)

-- as if its processor had neither reported nor seen that all have
abbrev pub tile_reopened : PlacedTile → PlacedTile
tile_reopened v = with_processor v (processor_open v.place.processor.state)

-- the tiles with the line given to the processor of tile `own`, and room for its operations in the
-- bank of tile `home`
abbrev pub tiles_given : Line → ℕ → ℕ → List PlacedTile → List PlacedTile
tiles_given line own home tiles =
    changed_at (tile_given line) (changed_at (tile_wider (operations_of line)) tiles home) own

-- a processor can be handed the line, with room for so many operations in all: a `last` has an
-- operation before it, and there is room for those issued, those that the script still allows, and
-- the line's
pub record HasRoomFor (line : Line) (most : ℕ) (b : ProcessorRecord) : Type 0 where
  pub last : mentions_last line ≡ true → 0 < length b.issued + left_of b.following
  pub room : length b.issued + left_of b.following + operations_of line ≤ most

-- the marks of all tiles that are set: that a processor has reported, and seen that all have
abbrev pub marks_in : List PlacedTile → ℕ
marks_in tiles = sum_by (λ v. marks (state_of v.place)) tiles

module _ (tiles new_tiles : List PlacedTile) (row new_row : List ℕ) (awake new_awake : Awake)
    (taken : ℕ) where
  -- all reports are taken back, so many marks: nobody has reported or seen, the done word at the
  -- row's end is 0, and all agents count as awake
  pub record AreTakenBack : Type 0 where
    pub tiles_are : new_tiles ≡ map tile_reopened tiles
    pub row_is : new_row ≡ slice_set row (length row - 1) 0
    pub awake_is : new_awake ≡ all_roused awake
    pub marks_are : taken ≡ marks_in tiles

  -- none are
  pub record AreLeft : Type 0 where
    pub tiles_are : new_tiles ≡ tiles
    pub row_is : new_row ≡ row
    pub awake_is : new_awake ≡ awake
    pub marks_are : taken ≡ 0

  -- all are, or none, as the processor has reported
  abbrev pub AreAsReported : Bool → Type 0
  AreAsReported true = AreTakenBack
  AreAsReported false = AreLeft
