-- The facts of a report's contents that make it a good report.
use Rattle.std.specs.Prelude.{◌≡◌, ◌⊎◌, ℕ, ◌%◌, ◌==◌, ◌<◌, ◌≤◌, List, [], Bool, true, Some, None, length, map, take}
use Rattle.std.specs.Prelude.{count_by, slice_get, slice_index_or}
use Rattle.std.specs.List.{flat_map}
use Rattle.torus.specs.Shape.{Shape, tiles_of, IsAccepted}
use Rattle.packet.specs.declared.kinds.Operation.{Operation}
use Rattle.packet.specs.Memory.{replies, memory_after}
use Rattle.report_lines.specs.declared.line.OrderLine.{OrderLine}
use Rattle.report_lines.specs.declared.parts.EntryRow.{EntryRow}
use Rattle.report_lines.specs.declared.parts.AnswerRow.{AnswerRow}

-- the rows of a bank or of a processor: none past the last (this project's own format)
abbrev pub rows_at : {X : Type 0} → List (List X) → ℕ → List X
rows_at xss n = slice_index_or xss n []

-- what an entry asked of the memory (Herlihy and Wing, TOPLAS 12(3), 1990: the operation of a
-- history's event)
abbrev pub operation_in : EntryRow → Operation
operation_in e = record { address = e.address; op = e.op }

-- an entry of bank b is of a processor and a tag of the machine, and of an address at home in b
-- (this project's own format)
pub record StandsIn (tiles words b : ℕ) (e : EntryRow) : Type 0 where
  pub bank : b < tiles
  pub source : e.source < tiles
  pub tag : e.tag < 16
  pub address : e.address < words
  pub home : e.address % tiles ≡ b

-- the entries stand in the home banks of their addresses, and replay, bank by bank, on one memory
-- from the opening words to the last (Herlihy and Wing, TOPLAS 12(3), 1990: a legal sequential
-- history)
pub record AreEntries (tiles : ℕ) (opening : List ℕ) (entries : List (List EntryRow))
    (last : List ℕ) : Type 0 where
  pub stand : (b place : ℕ) (e : EntryRow) → slice_get (rows_at entries b) place ≡ Some e
      → StandsIn tiles (length opening) b e
  pub few : length (flat_map (λ es. es) entries) ≤ 65536
  pub told : replies (map operation_in (flat_map (λ es. es) entries)) opening
      ≡ map (λ e. e.reply) (flat_map (λ es. es) entries)
  pub left : memory_after (map operation_in (flat_map (λ es. es) entries)) opening ≡ last

-- an answer of processor p names an entry of p, with its reply (this project's own format)
pub record NamesRow (entries : List (List EntryRow)) (p : ℕ) (a : AnswerRow) : Type 0 where
  pub entry : EntryRow
  pub there : slice_get (rows_at entries a.bank) a.place ≡ Some entry
  pub source : entry.source ≡ p
  pub reply : entry.reply ≡ a.reply

-- each answer names an entry; no two of a processor have one index, and no two name one entry (this
-- project's own format)
pub record AreAnswers (entries : List (List EntryRow)) (answers : List (List AnswerRow)) : Type 0
  where
    pub named : (p i : ℕ) (a : AnswerRow) → slice_get (rows_at answers p) i ≡ Some a
        → NamesRow entries p a
    pub low : (p i : ℕ) (a : AnswerRow) → slice_get (rows_at answers p) i ≡ Some a → a.index < 4096
    pub once : (p i j : ℕ) (a c : AnswerRow) → slice_get (rows_at answers p) i ≡ Some a
        → slice_get (rows_at answers p) j ≡ Some c
        → a.index ≡ c.index → i ≡ j
    pub apart : (p q i j : ℕ) (a c : AnswerRow) → slice_get (rows_at answers p) i ≡ Some a
        → slice_get (rows_at answers q) j ≡ Some c
        → a.bank ≡ c.bank → a.place ≡ c.place → (p ≡ q) × (i ≡ j)

-- some answer names the entry at a place of a bank (this project's own format)
abbrev pub HasAnswer : List (List AnswerRow) → ℕ → ℕ → Type 0
HasAnswer answers bank place =
    (p i : ℕ) × (a : AnswerRow) × (slice_get (rows_at answers p) i ≡ Some a) × (a.bank ≡ bank)
    × (a.place ≡ place)

-- an order line has the number of an event: of its issue, its service or its answer (this project's
-- own format)
abbrev pub HasNumber : OrderLine → ℕ → Type 0
HasNumber o event = (o.issued ≡ event) ⊎ (o.served ≡ event) ⊎ (o.answered ≡ Some event)

-- an order line names the entry of a place of a bank (this project's own format)
abbrev pub IsOrdered : List OrderLine → ℕ → ℕ → Type 0
IsOrdered order bank place =
    (k : ℕ) × (o : OrderLine) × (slice_get order k ≡ Some o) × (o.bank ≡ bank) × (o.place ≡ place)

-- the order lines name the entries, each of a bank's in its turn, in the order of their services;
-- there are none, or one for each entry (this project's own format)
pub record AreOrdered (entries : List (List EntryRow)) (order : List OrderLine) : Type 0 where
  pub named : (k : ℕ) (o : OrderLine) → slice_get order k ≡ Some o
      → o.place < length (rows_at entries o.bank)
  pub turn : (k : ℕ) (o : OrderLine) → slice_get order k ≡ Some o
      → o.place ≡ count_by (λ x. x.bank == o.bank) (take k order)
  pub rising : (j k : ℕ) (x y : OrderLine) → j < k → slice_get order j ≡ Some x
      → slice_get order k ≡ Some y → x.served < y.served
  pub every : (order ≡ []) ⊎ ((bank place : ℕ) → place < length (rows_at entries bank)
      → IsOrdered order bank place)

-- the numbers are those of distinct events among 196608: an entry is issued, then served, then
-- answered, if it is (this project's own format)
pub record AreNumbered (order : List OrderLine) : Type 0 where
  pub issued_first : (k : ℕ) (o : OrderLine) → slice_get order k ≡ Some o → o.issued < o.served
  pub answered_last : (k event : ℕ) (o : OrderLine) → slice_get order k ≡ Some o
      → o.answered ≡ Some event → o.served < event
  pub distinct : (j k event : ℕ) (x y : OrderLine) → slice_get order j ≡ Some x
      → slice_get order k ≡ Some y → HasNumber x event → HasNumber y event → j ≡ k
  pub low : (k event : ℕ) (o : OrderLine) → slice_get order k ≡ Some o → HasNumber o event
      → 1 ≤ event
  pub high : (k event : ℕ) (o : OrderLine) → slice_get order k ≡ Some o → HasNumber o event
      → event ≤ 196608

-- an order line has the number of an answer exactly where its entry has an answer (this project's
-- own format)
pub record AnswersAreTold (answers : List (List AnswerRow)) (order : List OrderLine) : Type 0 where
  pub answered : (k event : ℕ) (o : OrderLine) → slice_get order k ≡ Some o
      → o.answered ≡ Some event → HasAnswer answers o.bank o.place
  pub unanswered : (k : ℕ) (o : OrderLine) → slice_get order k ≡ Some o → o.answered ≡ None
      → HasAnswer answers o.bank o.place → ⊥

-- These are the contents of a report that is good: a shape and a number of words within the limits;
-- entries that replay from the opening words to the last; answers of theirs; their order; and where
-- all is finished, an answer for each entry (this project's own format).
pub record AreContents (shape : Shape) (opening : List ℕ) (entries : List (List EntryRow))
    (answers : List (List AnswerRow)) (last : List ℕ) (order : List OrderLine)
    (finished : Bool) : Type 0 where
  pub accepted : IsAccepted shape
  pub words_low : 1 ≤ length opening
  pub words_high : length opening ≤ 65536
  pub entered : AreEntries (tiles_of shape) opening entries last
  pub answered : AreAnswers entries answers
  pub ordered : AreOrdered entries order
  pub numbered : AreNumbered order
  pub told : AnswersAreTold answers order
  pub complete : finished ≡ true → (bank place : ℕ) → place < length (rows_at entries bank)
      → HasAnswer answers bank place
