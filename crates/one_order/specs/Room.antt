-- Room: how many operations the scripts can make, and how many of them stand anywhere.
use Rattle.std.specs.Prelude.{◌≡◌, ℕ, ◌+◌, ◌*◌, ◌<◌, ◌≤◌, ◌==◌, List, Some, length, count_by, slice_get, sum_by}
use Rattle.packet.specs.declared.kinds.Request.{Request}
use Rattle.packet.specs.declared.kinds.Response.{Response}
use Rattle.script_lines.specs.declared.line.Line.{Line}
use Rattle.script_lines.specs.Lines.{operation_count, total_count}
use Rattle.tag_table.specs.Tags.{out_count}
use Rattle.one_order.specs.Homes.{script_home_count}
use Rattle.one_order.specs.ProcessorRecord.{index_of, operation_under}
use Rattle.one_order.specs.Observed.{list_at, total}
use Rattle.one_order.specs.Order.{home}
use Rattle.one_order.specs.Flight.{Flight, Move, Sends, Serves, Takes, processor_at, word_asked}
use Rattle.one_order.specs.EventBook.{EventBook, row_at}

-- how many operations of all scripts can come to bank b
abbrev pub home_room : ℕ → ℕ → List (List Line) → ℕ
home_room tiles b scripts = sum_by (script_home_count tiles b) scripts

-- A flight is within the room of its scripts: of each processor no more operations are issued than
-- its script can make; at most home_room of them are asked of a bank or served there, and at most
-- total_count in all; and those that hold a tag are those without an answer (this project's own
-- format).
pub record IsWithin (tiles : ℕ) (scripts : List (List Line)) (f : Flight) : Type 0 where
  pub processors : length f.processors ≡ tiles
  pub banks : length f.entries ≡ tiles
  pub issued : (p : ℕ) (lines : List Line) → slice_get scripts p ≡ Some lines
      → length (processor_at f p).issued ≤ operation_count lines
  pub answers : (p : ℕ) → out_count (processor_at f p).tags + length (processor_at f p).answers
      ≡ length (processor_at f p).issued
  pub homes : (b : ℕ) → count_by (λ r. r.destination == b) f.asked + length (list_at f.entries b)
      ≤ home_room tiles b scripts
  pub asked : length f.asked + total f.entries ≤ total_count scripts
  pub told : length f.told ≤ total f.entries

-- A book goes with its flight: as many issues, services and rows, of which each service has its
-- own; and at most three events an operation (this project's own format).
pub record IsBookWithin (scripts : List (List Line)) (f : Flight) (g : EventBook) : Type 0 where
  pub events : g.events ≤ 3 * total_count scripts
  pub rows : length g.rows ≡ total f.entries
  pub issues : (p : ℕ) → length (list_at g.issues p) ≡ length (processor_at f p).issued
  pub positions : (b : ℕ) → length (list_at g.positions b) ≡ length (list_at f.entries b)
  pub row : (b place : ℕ) → place < length (list_at f.entries b) → row_at b place g < length g.rows

-- there is room for an issue of processor t: its script can make one more, and so can all together
pub record RoomToSend (scripts : List (List Line)) (f : Flight) (t : ℕ) : Type 0 where
  pub issued : (lines : List Line) → slice_get scripts t ≡ Some lines
      → length (processor_at f t).issued < operation_count lines
  pub asked : length f.asked + total f.entries < total_count scripts

-- there is room for the service of a request, which is for a word of its bank, of an operation that
-- a processor has issued
pub record RoomToServe (tiles words : ℕ) (scripts : List (List Line)) (f : Flight)
    (r : Request) : Type 0 where
  pub entries : length (list_at f.entries r.destination) < home_room tiles r.destination scripts
  pub all : total f.entries < total_count scripts
  pub bank : r.destination < tiles
  pub word : word_asked tiles r < words
  pub source : r.source < tiles
  pub holder : index_of (processor_at f r.source) r.tag.0 < length (processor_at f r.source).issued
  pub home : home tiles (operation_under (processor_at f r.source) r.tag.0) ≡ r.destination

-- there is room for the answer by a response, of which an issued operation holds the tag, and which
-- names a service
pub record RoomToTake (tiles : ℕ) (scripts : List (List Line)) (f : Flight) (r : Response) : Type 0
  where
    pub answers : (lines : List Line) → slice_get scripts r.destination ≡ Some lines
        → length (processor_at f r.destination).answers < operation_count lines
    pub processor : r.destination < tiles
    pub held : (i : ℕ) × (slice_get (processor_at f r.destination).tags r.tag.0
        ≡ Some (Some (record { 0 = i })))
        × (i < length (processor_at f r.destination).issued)
    pub source : r.source < tiles
    pub place : r.place < length (list_at f.entries r.source)

-- there is room for a move
abbrev pub HasRoomForMove : ℕ → ℕ → List (List Line) → Flight → Move → Type 0
HasRoomForMove tiles words scripts f (Sends t tag o) = RoomToSend scripts f t
HasRoomForMove tiles words scripts f (Serves r) = RoomToServe tiles words scripts f r
HasRoomForMove tiles words scripts f (Takes r) = RoomToTake tiles scripts f r
