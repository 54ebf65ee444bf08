-- What a step's code asks of its tile before, and the room that the book of events has for what it
-- notes of the step.
use Rattle.std.specs.Prelude.{◌≡◌, ℕ, ◌<◌, List, length, map, Some, slice_get, slice_index}
use Rattle.torus.specs.declared.step.Choice.TheVariants.{Serve}
use Rattle.torus.specs.declared.step.Choice.{Choice}
use Rattle.home_bank.specs.declared.entry.Entry.{Entry}
use Rattle.one_order.specs.declared.answer.Answer.{Answer}
use Rattle.one_order.specs.Observed.{list_at}
use Rattle.one_order.specs.ProcessorRecord.{ProcessorRecord}
use Rattle.order_book.specs.RoomyBook.{RoomyBook}
use Rattle.machine_parts.specs.Placed.{PlacedTile}
use Rattle.machine_parts.specs.Notes.{RoomToNoteAnswer, index_served}
use Rattle.machine_core.specs.declared.noting.Counts.{Counts}

-- the records of the tiles' processors
abbrev pub records_in : List PlacedTile → List ProcessorRecord
records_in tiles = map (λ v. v.place.processor.state.operations) tiles

-- a choice of a tile's bank is a service, and the bank has no room for its entry
pub record IsOfFullBank (v : PlacedTile) (choice : Choice) : Type 0 where
  pub service : choice ≡ Serve
  pub full : length v.place.bank.state.entries ≡ v.room

-- how many operations a tile's processor has issued and had answered, and how many requests its
-- bank has served
abbrev pub counts_of : PlacedTile → Counts
counts_of v = record {
  issued = length v.place.processor.state.operations.issued;
  answers = length v.place.processor.state.operations.answers;
  entries = length v.place.bank.state.entries;
}

-- the book has room for an issue of processor p
pub record HasRoomForIssue (g : RoomyBook) (p : ℕ) : Type 0 where
  pub processor : p < length g.book.issues
  pub room : length (list_at g.book.issues p) < slice_index g.issues p

-- the book has room for a service of bank b, of operation i of processor p, whose issue is noted
pub record HasRoomForService (g : RoomyBook) (b p i : ℕ) : Type 0 where
  pub bank : b < length g.book.positions
  pub source : p < length g.book.issues
  pub index : i < length (list_at g.book.issues p)
  pub place : length (list_at g.book.positions b) < slice_index g.positions b
  pub services : length (list_at g.book.positions b) < 65536
  pub room : length g.book.rows < g.rows
  pub rows : length g.book.rows < 65536

-- the book has room for what a tile has more than it had before
pub record HasRoomToNote (tiles : List PlacedTile) (t : ℕ) (before : Counts) (g : RoomyBook) : Type
    0 where
  pub issue : (v : PlacedTile) → slice_get tiles t ≡ Some v
      → before.issued < length v.place.processor.state.operations.issued → HasRoomForIssue g t
  pub answer : (v : PlacedTile) → slice_get tiles t ≡ Some v
      → (a : Answer) → slice_get v.place.processor.state.operations.answers before.answers ≡ Some a
      → RoomToNoteAnswer g.book a.bank a.place
  pub service : (v : PlacedTile) → slice_get tiles t ≡ Some v
      → (e : Entry) → slice_get v.place.bank.state.entries before.entries ≡ Some e
      → (e.source < length tiles)
      × HasRoomForService g t e.source (index_served (records_in tiles) e)
  pub events : g.book.events < 4294967295
