-- The good reports, and the first bad line of any other text (this project's own format).
use Rattle.std.specs.Prelude.{◌≡◌, ◌≢◌, ◌⊎◌, ℕ, ◌+◌, ◌%◌, ◌<◌, ◌≤◌, List, [], ◌∷◌, ◌++◌, length}
use Rattle.std.specs.Prelude.{map, Bool, true}
use Rattle.std.specs.Prelude.{false, Some, IsTrue, IfSome, is_some, slice_index, slice_get}
use Rattle.std.specs.List.{AllByRecursion}
use Rattle.torus.specs.Shape.{product}
use Rattle.packet.specs.Memory.{reply_of_one}
use Rattle.report_lines.specs.Line.{line_text, radix_list, text_of}
use Rattle.report_lines.specs.Contents.{is_newer}
use Rattle.report_lines.specs.declared.line.Radices.{Radices}
use Rattle.report_lines.specs.declared.line.EntryLine.{EntryLine}
use Rattle.report_lines.specs.declared.line.AnswerLine.{AnswerLine}
use Rattle.report_lines.specs.declared.line.OrderLine.{OrderLine}
use Rattle.report_lines.specs.declared.line.ReportLine.{ReportLine}
use Rattle.report_lines.specs.declared.line.ReportLine.TheVariants.{Header, Shape, Init, Entry}
use Rattle.report_lines.specs.declared.line.ReportLine.TheVariants.{Answer, Word, Order}
use Rattle.report_lines.specs.declared.line.ReportLine.TheVariants.{End}
use Rattle.report_check.specs.declared.fault.CheckFault.{CheckFault}
use Rattle.report_check.specs.declared.fault.CheckFault.TheVariants.{BadReport, Memory}
use Rattle.report_lines.specs.Fits.{FitsLine}
use Rattle.report_check.specs.Seen.{Seen, nothing_seen, seen_after, seen_of, above_last, last_bank}
use Rattle.report_check.specs.Seen.{entries_at, has_newer}
use Rattle.report_check.specs.Seen.{is_answered, key_of, line_operation, orders_at, is_named}

-- behind the shape, and not behind a line of a later kind
pub record InSection (s : Seen) (latest : ℕ) : Type 0 where
  pub shaped : 2 ≤ s.section
  pub early : s.section ≤ latest

-- behind the entries: where the version is 2, one of them is one of the newer operations
pub record BehindEntries (s : Seen) (latest : ℕ) : Type 0 where
  pub section : InSection s latest
  pub newer : s.version ≡ 2 → has_newer s.entries ≡ true

-- the first line: the version is 1 or 2
pub record AllowedHeader (s : Seen) (version : ℕ) : Type 0 where
  pub first : s.section ≡ 0
  pub known : (version ≡ 1) ⊎ (version ≡ 2)

-- radices within the limits: each is 2 to 8, and there are at most 64 tiles
pub record AreRadices (radices : List ℕ) : Type 0 where
  pub each : AllByRecursion (λ k. (2 ≤ k) × (k ≤ 8)) radices
  pub tiles : product radices ≤ 64

-- the second line: radices within the limits, and 1 to 65536 words
pub record AllowedShape (s : Seen) (radices : Radices) (words : ℕ) : Type 0 where
  pub behind_header : s.section ≡ 1
  pub limits : AreRadices (radix_list radices)
  pub words_low : 1 ≤ words
  pub words_high : words ≤ 65536

-- an `init` line: addresses rise and are below the number of words, and the value is not 0
pub record AllowedInit (s : Seen) (address value : ℕ) : Type 0 where
  pub section : InSection s 3
  pub rises : above_last s.inits ≤ address
  pub inside : address < s.words
  pub not_zero : 0 < value

-- the entry is the next one of its bank, and banks do not fall
pub record IsNext (s : Seen) (e : EntryLine) : Type 0 where
  pub bank : e.bank < s.tiles
  pub rises : last_bank s.entries ≤ e.bank
  pub next : e.place ≡ length (entries_at s.entries e.bank)
  pub source : e.source < s.tiles
  pub tag : e.tag < 16
  pub room : length s.entries < 65536

-- the address is at home in the entry's bank
pub record IsHome (s : Seen) (e : EntryLine) : Type 0 where
  pub inside : e.address < s.words
  pub home : e.address % s.tiles ≡ e.bank

-- an `entry` line: its reply is what the operation gives on the memory so far
pub record AllowedEntry (s : Seen) (e : EntryLine) : Type 0 where
  pub section : InSection s 4
  pub next : IsNext s e
  pub home : IsHome s e
  pub version : is_newer e.op ≡ true → s.version ≡ 2
  pub reply : e.reply ≡ reply_of_one (line_operation e) s.memory

-- the answer is that of an entry that has none yet
pub record NamesUnansweredEntry (s : Seen) (a : AnswerLine) : Type 0 where
  pub entry : EntryLine
  pub there : slice_get (entries_at s.entries a.bank) a.place ≡ Some entry
  pub source : entry.source ≡ a.processor
  pub reply : entry.reply ≡ a.reply
  pub once : is_answered s.answers a.bank a.place ≡ false

-- an `answer` line: processors and then indexes rise
pub record AllowedAnswer (s : Seen) (a : AnswerLine) : Type 0 where
  pub section : BehindEntries s 5
  pub index : a.index < 4096
  pub rises : above_last (map key_of s.answers) ≤ key_of a
  pub names : NamesUnansweredEntry s a

-- each word from the last one given on, below an address, is 0
abbrev pub ToldBelow : List ℕ → List ℕ → ℕ → Type 0
ToldBelow told memory end = (k : ℕ) → above_last told ≤ k → k < end → slice_index memory k ≡ 0

-- a `word` line: the next word that is not 0
pub record AllowedWord (s : Seen) (address value : ℕ) : Type 0 where
  pub section : BehindEntries s 6
  pub rises : above_last s.told ≤ address
  pub inside : address < s.words
  pub is : slice_index s.memory address ≡ value
  pub not_zero : 0 < value
  pub none_left : ToldBelow s.told s.memory address

-- an event number that no order line has named
pub record IsNewEvent (s : Seen) (event : ℕ) : Type 0 where
  pub low : 1 ≤ event
  pub high : event ≤ 196608
  pub new : is_named s.orders event ≡ false

-- the line is that of the next entry of its bank, and says whether that has an answer
pub record OrdersNext (s : Seen) (o : OrderLine) : Type 0 where
  pub there : o.place < length (entries_at s.entries o.bank)
  pub next : o.place ≡ length (orders_at s.orders o.bank)
  pub is_answered : is_some o.answered ≡ is_answered s.answers o.bank o.place

-- the event numbers are new, and an entry is issued, then served, then answered
pub record HasNewEvents (s : Seen) (o : OrderLine) : Type 0 where
  pub issued : IsNewEvent s o.issued
  pub served : IsNewEvent s o.served
  pub issued_first : o.issued < o.served
  pub answered : IfSome o.answered (λ n. (o.served < n) × IsNewEvent s n)

-- an `order` line: every word has its line, and the numbers of service rise
pub record AllowedOrder (s : Seen) (o : OrderLine) : Type 0 where
  pub section : BehindEntries s 7
  pub told : ToldBelow s.told s.memory s.words
  pub next : OrdersNext s o
  pub rises : above_last (map (λ x. x.served) s.orders) ≤ o.served
  pub events : HasNewEvents s o

-- no order line, or one for each entry of each bank
abbrev pub IsWholeOrder : Seen → Type 0
IsWholeOrder s = (s.orders ≡ [])
    ⊎ ((bank : ℕ) → length (orders_at s.orders bank) ≡ length (entries_at s.entries bank))

-- each entry has an answer
abbrev pub IsAllAnswered : List EntryLine → List AnswerLine → Type 0
IsAllAnswered entries answers =
    (bank place : ℕ) → place < length (entries_at entries bank)
    → is_answered answers bank place ≡ true

-- the last line: every word has its line, the order is whole, and behind `end complete` each entry has
-- an answer
pub record AllowedEnd (s : Seen) (complete : Bool) : Type 0 where
  pub section : BehindEntries s 7
  pub told : ToldBelow s.told s.memory s.words
  pub orders : IsWholeOrder s
  pub all_answered : IsTrue complete → IsAllAnswered s.entries s.answers

-- a line breaks no rule behind what was seen
abbrev pub Allowed : Seen → ReportLine → Type 0
Allowed s (Header version) = AllowedHeader s version
Allowed s (Shape radices words) = AllowedShape s radices words
Allowed s (Init address value) = AllowedInit s address value
Allowed s (Entry e) = AllowedEntry s e
Allowed s (Answer a) = AllowedAnswer s a
Allowed s (Word address value) = AllowedWord s address value
Allowed s (Order o) = AllowedOrder s o
Allowed s (End complete) = AllowedEnd s complete

-- the numbers of a line fit, and it breaks no rule behind what was seen
pub record MayStand (s : Seen) (line : ReportLine) : Type 0 where
  pub fits : FitsLine line
  pub allowed : Allowed s line

-- each line may stand behind those before it
abbrev pub AllStand : Seen → List ReportLine → Type 0
AllStand s [] = Unit {0}
AllStand s (line ∷ lines) = MayStand s line × AllStand (seen_after s line) lines

-- the lines of a good report: each may stand behind those before it, and the last one is the end
pub record AreGood (lines : List ReportLine) : Type 0 where
  pub each : AllStand nothing_seen lines
  pub ended : (seen_of lines).section ≡ 8

-- a good report is the printing of such lines
pub record GoodReport (text : List ℕ) : Type 0 where
  pub lines : List ReportLine
  pub printed : text ≡ text_of lines
  pub good : AreGood lines

-- what is left of a text begins with no line that may stand, and behind the end something is left
pub record IsStuck (s : Seen) (rest : List ℕ) : Type 0 where
  pub none : (line : ReportLine) (more : List ℕ) → MayStand s line → rest ≢ line_text line ++ more
  pub not_good : s.section ≡ 8 → rest ≢ []

-- the first bad line of a text: those before it stand, and it does not
pub record FirstBad (text : List ℕ) (number : ℕ) : Type 0 where
  pub lines : List ReportLine
  pub rest : List ℕ
  pub printed : text ≡ text_of lines ++ rest
  pub each : AllStand nothing_seen lines
  pub counted : number ≡ length lines + 1
  pub stuck : IsStuck (seen_of lines) rest

-- a fault names the first bad line, or that memory was refused
abbrev pub HasFault : List ℕ → CheckFault → Type 0
HasFault text (BadReport number) = FirstBad text number
HasFault text Memory = Unit {0}
