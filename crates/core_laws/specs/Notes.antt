-- What a machine's code notes of a step, told by the counts of its tile, and the room that it has
-- for that.
use Rattle.std.specs.Prelude.{◌≡◌, ℕ, ◌+◌, ◌*◌, ◌<◌, ◌≤◌, nat_lt, if◌then◌else◌, List, length, Option, Some, None}
use Rattle.std.specs.Prelude.{slice_get, slice_index_or}
use Rattle.torus.specs.Shape.{tiles_of}
use Rattle.script_lines.specs.declared.line.Line.{Line}
use Rattle.script_lines.specs.Lines.{operation_count, total_count}
use Rattle.home_bank.specs.declared.entry.Entry.{Entry}
use Rattle.one_order.specs.declared.answer.Answer.{Answer}
use Rattle.one_order.specs.Observed.{list_at}
use Rattle.one_order.specs.ProcessorRecord.{ProcessorRecord, no_processor, index_of}
use Rattle.one_order.specs.Load.{Load}
use Rattle.one_order.specs.EventBook.{EventBook, noted_issue, noted_service, noted_answer}
use Rattle.one_order.specs.EventBook.{row_at}
use Rattle.one_order.specs.Room.{home_room}
use Rattle.core_laws.specs.Tile.{TileState}

-- the index of the operation that an entry serves: the one that holds its tag, by the processors'
-- records
abbrev pub index_served : List ProcessorRecord → Entry → ℕ
index_served records e = index_of (slice_index_or records e.source no_processor) e.tag.0

-- the book with the service of a new entry of bank t, if there is one
abbrev pub service_noted : ℕ → List ProcessorRecord → Option Entry → EventBook → EventBook
service_noted t records None g = g
service_noted t records (Some e) g = noted_service t e.source (index_served records e) g

-- the book with a new answer, if there is one; else with a new entry
abbrev pub answer_noted : ℕ → List ProcessorRecord → Option Answer → Option Entry → EventBook
    → EventBook
answer_noted t records None entry g = service_noted t records entry g
answer_noted t records (Some a) entry g = noted_answer a.bank a.place g

-- The book after a step at tile t, by what the tile shows then and by how many operations, answers
-- and entries it had before: with more operations an issue is noted, else with one more answer
-- that, else with one more entry its service, else nothing (this project's own format).
abbrev pub book_noted : ℕ → List ProcessorRecord → ℕ → ℕ → ℕ → TileState → EventBook → EventBook
book_noted t records issued answers entries after g =
    if nat_lt issued (length after.processor.operations.issued) then noted_issue t g
    else answer_noted t records (slice_get after.processor.operations.answers answers)
    (slice_get after.bank.entries entries) g

-- a tile has as many operations, answers and entries as before
pub record IsLevel (before left : TileState) : Type 0 where
  pub issued : length left.processor.operations.issued ≡ length before.processor.operations.issued
  pub answers : length left.processor.operations.answers
      ≡ length before.processor.operations.answers
  pub entries : length left.bank.entries ≡ length before.bank.entries

-- it has no fewer of any, and at most one more of all together (this project's own format)
pub record RisesByOne (before left : TileState) : Type 0 where
  pub issued : length before.processor.operations.issued ≤ length left.processor.operations.issued
  pub answers : length before.processor.operations.answers
      ≤ length left.processor.operations.answers
  pub entries : length before.bank.entries ≤ length left.bank.entries
  pub all : length left.processor.operations.issued + length left.processor.operations.answers
      + length left.bank.entries ≤ length before.processor.operations.issued
      + length before.processor.operations.answers + length before.bank.entries + 1

-- A book has a list for each tile's issues and services, no more rows than the scripts' operations,
-- and at most three events an operation (this project's own format).
pub record FitsLoad (l : Load) (g : EventBook) : Type 0 where
  pub issues : length g.issues ≡ tiles_of l.shape
  pub positions : length g.positions ≡ tiles_of l.shape
  pub events : g.events ≤ 3 * total_count l.scripts
  pub rows : length g.rows ≤ total_count l.scripts
  pub operations : total_count l.scripts ≤ 65536

-- there is room to note an issue of processor t: its script can make one more operation than are
-- noted
pub record RoomToNoteIssue (l : Load) (g : EventBook) (t : ℕ) : Type 0 where
  pub processor : t < length g.issues
  pub lines : List Line
  pub script : slice_get l.scripts t ≡ Some lines
  pub issues : length (list_at g.issues t) < operation_count lines

-- there is room to note a service of bank t, of an operation whose issue is noted
pub record RoomToNoteService (l : Load) (g : EventBook) (t source index : ℕ) : Type 0 where
  pub bank : t < length g.positions
  pub positions : length (list_at g.positions t) < home_room (tiles_of l.shape) t l.scripts
  pub services : length (list_at g.positions t) < total_count l.scripts
  pub rows : length g.rows < total_count l.scripts
  pub source_in : source < length g.issues
  pub index_in : index < length (list_at g.issues source)

-- there is a row on which an answer is noted that names the service of a place of a bank
pub record RoomToNoteAnswer (g : EventBook) (bank place : ℕ) : Type 0 where
  pub bank_in : bank < length g.positions
  pub place_in : place < length (list_at g.positions bank)
  pub row : row_at bank place g < length g.rows
