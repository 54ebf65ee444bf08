-- What callers derive from a run's one order.
use Rattle.std.specs.Prelude.{List, [], ◌∷◌, None, Option, Some, count_by, filter, if◌then◌else◌, length, map}
use Rattle.std.specs.Prelude.{slice_get, take, ℕ, ◌+◌, ◌%◌, ◌++◌, ◌<◌, ◌==◌, ◌≡◌, ◌≤◌}
use Rattle.std.specs.List.{flat_map}
use Rattle.packet.specs.declared.kinds.Op.{Op}
use Rattle.packet.specs.declared.kinds.Operation.{Operation}
use Rattle.packet.specs.declared.kinds.Reply.{Reply}
use Rattle.packet.specs.Memory.{replies, memory_after}
use Rattle.home_bank.specs.declared.entry.Entry.{Entry}
use Rattle.home_bank.specs.MemoryReplay.{entry_operation}
use Rattle.one_order.specs.declared.answer.Answer.{Answer}
use Rattle.one_order.specs.declared.ordered.Ordered.{Ordered}
use Rattle.one_order.specs.Observed.{Observed, Run, list_at, total, IsIssuedAt, IsAnsweredAt}
use Rattle.one_order.specs.Order.{home}

-- p's operation i precedes q's operation j in real time: it is answered before that is issued
-- (Herlihy and Wing, TOPLAS 12(3), 1990: the order of a history's non-overlapping operations)
abbrev pub Precedes : Run → ℕ → ℕ → ℕ → ℕ → Type 0
Precedes run p i q j = (t u : ℕ) × IsAnsweredAt run p i t × IsIssuedAt run q j u × (t < u)

-- the events of an operation
pub data EventKind : Type 0 where
  Issue : EventKind
  Service : EventKind
  Response : EventKind

-- the number of an event in an operation's row: None where it has not happened
abbrev pub event_number : Ordered → EventKind → Option ℕ
event_number row Issue = Some row.issued
event_number row Service = Some row.served
event_number row Response = row.answered

-- The numbers in the rows are those of distinct events among so many, from 1: an operation is
-- issued, then served, then answered, and the rows stand in the order of the services (this
-- project's own format).
pub record AreEventNumbers (count : ℕ) (rows : List Ordered) : Type 0 where
  pub issued_first : (k : ℕ) (row : Ordered) → slice_get rows k ≡ Some row → row.issued < row.served
  pub answered_last : (k m : ℕ) (row : Ordered) → slice_get rows k ≡ Some row
      → row.answered ≡ Some m → row.served < m
  pub rising : (j k : ℕ) (x y : Ordered) → j < k → slice_get rows j ≡ Some x
      → slice_get rows k ≡ Some y
      → x.served < y.served
  pub distinct : (j k m : ℕ) (x y : Ordered) (d e : EventKind) → slice_get rows j ≡ Some x
      → slice_get rows k ≡ Some y
      → event_number x d ≡ Some m → event_number y e ≡ Some m → (j ≡ k) × (d ≡ e)
  pub low : (k m : ℕ) (row : Ordered) (d : EventKind) → slice_get rows k ≡ Some row
      → event_number row d ≡ Some m
      → 0 < m
  pub high : (k m : ℕ) (row : Ordered) (d : EventKind) → slice_get rows k ≡ Some row
      → event_number row d ≡ Some m
      → m ≤ count

-- a row names an entry by bank and place: one of its operation, as it was issued
pub record NamesEntry (s : Observed) (row : Ordered) : Type 0 where
  pub entry : Entry
  pub there : slice_get (list_at s.entries row.bank) row.place ≡ Some entry
  pub source : entry.source ≡ row.source
  pub operation : slice_get (list_at s.issued row.source) row.index ≡ Some (entry_operation entry)

-- The rows are those of the entries, one for each: the rows of one bank stand in the order of its
-- places (this project's own format).
pub record NameEntries (s : Observed) (rows : List Ordered) : Type 0 where
  pub named : (k : ℕ) (row : Ordered) → slice_get rows k ≡ Some row → NamesEntry s row
  pub every : (b place : ℕ) (e : Entry) → slice_get (list_at s.entries b) place ≡ Some e
      → (k : ℕ) × (row : Ordered) × (slice_get rows k ≡ Some row) × (row.bank ≡ b)
      × (row.place ≡ place)
  pub once : (j k : ℕ) (x y : Ordered) → slice_get rows j ≡ Some x → slice_get rows k ≡ Some y
      → x.bank ≡ y.bank
      → x.place ≡ y.place → j ≡ k
  pub places : (k : ℕ) (row : Ordered) → slice_get rows k ≡ Some row
      → row.place ≡ count_by (λ r. r.bank == row.bank) (take k rows)
  pub count : length rows ≡ total s.entries

-- an entry of bank b is of a processor and a tag of the machine, and of an address at home in b
pub record EntryStands (tiles tags words b : ℕ) (e : Entry) : Type 0 where
  pub bank : b < tiles
  pub source : e.source < tiles
  pub tagged : e.tag.0 < tags
  pub address : e.address < words
  pub home : e.address % tiles ≡ b

-- an answer of p names an entry by bank and place: one of the operation that it is of, with its
-- reply
pub record AnswerNamesEntry (s : Observed) (p : ℕ) (a : Answer) : Type 0 where
  pub entry : Entry
  pub there : slice_get (list_at s.entries a.bank) a.place ≡ Some entry
  pub source : entry.source ≡ p
  pub op : entry.op ≡ a.op
  pub reply : entry.reply ≡ a.reply
  pub operation : slice_get (list_at s.issued p) a.index ≡ Some (entry_operation entry)

-- Each answer names an entry; no two are of one operation of a processor, and no two name one entry
-- (this project's own format).
pub record AnswersNameEntries (s : Observed) : Type 0 where
  pub named : (p i : ℕ) (a : Answer) → slice_get (list_at s.answers p) i ≡ Some a
      → AnswerNamesEntry s p a
  pub once : (p i j : ℕ) (a c : Answer) → slice_get (list_at s.answers p) i ≡ Some a
      → slice_get (list_at s.answers p) j ≡ Some c
      → a.index ≡ c.index → i ≡ j
  pub apart : (p q i j : ℕ) (a c : Answer) → slice_get (list_at s.answers p) i ≡ Some a
      → slice_get (list_at s.answers q) j ≡ Some c
      → a.bank ≡ c.bank → a.place ≡ c.place → (p ≡ q) × (i ≡ j)

-- an answer of the row's processor is of its operation, and names its entry
abbrev pub IsAnswerOf : Observed → Ordered → Type 0
IsAnswerOf s row =
    (i : ℕ) × (a : Answer) × (slice_get (list_at s.answers row.source) i ≡ Some a)
    × (a.index ≡ row.index)
    × (a.bank ≡ row.bank) × (a.place ≡ row.place)

-- A row has an answer's number exactly where its entry has an answer.
pub record AnswersAreNumbered (s : Observed) (rows : List Ordered) : Type 0 where
  pub answered : (k m : ℕ) (row : Ordered) → slice_get rows k ≡ Some row → row.answered ≡ Some m
      → IsAnswerOf s row
  pub unanswered : (k p i : ℕ) (row : Ordered) (a : Answer) → slice_get rows k ≡ Some row
      → row.answered ≡ None
      → slice_get (list_at s.answers p) i ≡ Some a → a.bank ≡ row.bank → a.place ≡ row.place → ⊥

-- Taken bank by bank, and within a bank by place, the entries are what one sequential memory does
-- from the opening words: the same replies, and the same words in the end (Herlihy and Wing:
-- locality, operations on different words commute).
pub record ReplaysByBank (opening : List ℕ) (s : Observed) : Type 0 where
  pub told : replies (map entry_operation (flat_map (λ es. es) s.entries)) opening
      ≡ map (λ e. e.reply) (flat_map (λ es. es) s.entries)
  pub left : memory_after (map entry_operation (flat_map (λ es. es) s.entries)) opening ≡ s.memory

-- Bank b has served p in turn: its entries of p are a beginning of what p issued with that home, in
-- the order of issue; the rest of that waits (this project's own format).
pub record ServesInTurn (tiles : ℕ) (s : Observed) (b p : ℕ) : Type 0 where
  pub waiting : List Operation
  pub are : filter (λ o. home tiles o == b) (list_at s.issued p)
      ≡ map entry_operation (filter (λ e. e.source == p) (list_at s.entries b)) ++ waiting

-- p's services among a bank's entries, of which the first has this place: the place of each, and
-- the entry
abbrev pub services_of : ℕ → ℕ → List Entry → List (ℕ × Entry)
services_of p place [] = []
services_of p place (e ∷ entries) =
    if e.source == p then (place, e) ∷ services_of p (place + 1) entries
    else services_of p (place + 1) entries

-- Bank b has answered p in turn: p's answers from b, in the order of answering, are of a beginning
-- of its services there, each with the place, the operation's kind and the reply of its entry; the
-- rest of those waits (this project's own format).
pub record AnswersInTurn (s : Observed) (b p : ℕ) : Type 0 where
  pub answered : List (ℕ × Entry)
  pub waiting : List (ℕ × Entry)
  pub are : services_of p 0 (list_at s.entries b) ≡ answered ++ waiting
  pub told : map {B = ℕ × Op × Reply} (λ a. (a.place, a.op, a.reply))
      (filter (λ a. a.bank == b) (list_at s.answers p))
      ≡ map {B = ℕ × Op × Reply} (λ x. (x.0, x.1.op, x.1.reply)) answered
