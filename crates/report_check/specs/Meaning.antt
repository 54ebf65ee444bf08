-- What a good report says, in the terms of one memory (this project's own format).
use Rattle.std.specs.Prelude.{◌≡◌, ℕ, ◌<◌, true, List, [], ◌∷◌, ◌++◌, Some, length, replicate}
use Rattle.std.specs.Prelude.{slice_get, slice_set}
use Rattle.std.specs.Prelude.{fold, map, flat_map, All, IfSome}
use Rattle.std.specs.List.{range_with_len}
use Rattle.std.specs.List.Sorted.{IsStrictlyIncreasing}
use Rattle.packet.specs.Memory.{memory_after, replies}
use Rattle.report_lines.specs.Contents.{set_words}
use Rattle.report_lines.specs.declared.line.EntryLine.{EntryLine}
use Rattle.report_lines.specs.declared.line.AnswerLine.{AnswerLine}
use Rattle.report_lines.specs.declared.line.OrderLine.{OrderLine}
use Rattle.report_lines.specs.declared.line.ReportLine.{ReportLine}
use Rattle.report_lines.specs.declared.line.ReportLine.TheVariants.{Header, Shape, Init, Entry}
use Rattle.report_lines.specs.declared.line.ReportLine.TheVariants.{Answer, Word, Order}
use Rattle.report_lines.specs.declared.line.ReportLine.TheVariants.{End}
use Rattle.report_check.specs.Seen.{Seen, seen_of, entries_at, line_operation, orders_at}

-- the opening words with one more line: all 0 behind the shape, and those that `init` lines name
abbrev pub opening_after : List ℕ → ReportLine → List ℕ
opening_after m (Header version) = m
opening_after m (Shape radices words) = replicate words 0
opening_after m (Init address value) = slice_set m address value
opening_after m (Entry e) = m
opening_after m (Answer a) = m
opening_after m (Word address value) = m
opening_after m (Order o) = m
opening_after m (End complete) = m

-- the opening words that the lines say
abbrev pub opening_of : List ReportLine → List ℕ
opening_of lines = fold opening_after [] lines

-- the word that a `word` line gives, with its address
abbrev pub word_in : ReportLine → List (ℕ × ℕ)
word_in (Header version) = []
word_in (Shape radices words) = []
word_in (Init address value) = []
word_in (Entry e) = []
word_in (Answer a) = []
word_in (Word address value) = (address, value) ∷ []
word_in (Order o) = []
word_in (End complete) = []

-- the words that the `word` lines give
abbrev pub told_words : List ReportLine → List (ℕ × ℕ)
told_words lines = flat_map word_in lines

-- the entries replay on one memory from the opening words, in the order of the report and in each
-- bank by itself, and the `word` lines give the words that are not 0 of the memory that they leave
-- (Herlihy and Wing, TOPLAS 12(3), 1990: a legal sequential history)
pub record EntriesReplay (lines : List ReportLine) : Type 0 where
  pub whole : map (λ e. e.reply) (seen_of lines).entries
      ≡ replies (map line_operation (seen_of lines).entries) (opening_of lines)
  pub banks : (bank : ℕ) → map (λ e. e.reply) (entries_at (seen_of lines).entries bank)
      ≡ replies (map line_operation (entries_at (seen_of lines).entries bank)) (opening_of lines)
  pub last : told_words lines
      ≡ set_words (memory_after (map line_operation (seen_of lines).entries) (opening_of lines))

-- an entry is issued, then served, then answered
abbrev pub IsTimely : OrderLine → Type 0
IsTimely o = (o.issued < o.served) × IfSome o.answered (λ n. o.served < n)

-- the order lines give one order of the entries: each once, the places of a bank rising, by rising
-- numbers of service
pub record OrdersEntries (s : Seen) : Type 0 where
  pub places : (bank : ℕ) → map (λ o. o.place) (orders_at s.orders bank)
      ≡ range_with_len 0 (length (entries_at s.entries bank))
  pub rises : IsStrictlyIncreasing (map (λ o. o.served) s.orders)
  pub timely : All IsTimely s.orders

-- the entry that an answer names: of its bank, at its place, and of its processor; with its reply
pub record NamesOwnEntry (s : Seen) (a : AnswerLine) : Type 0 where
  pub entry : EntryLine
  pub there : slice_get (entries_at s.entries a.bank) a.place ≡ Some entry
  pub source : entry.source ≡ a.processor
  pub reply : entry.reply ≡ a.reply

-- an answer names the entry at this place of a bank
pub record IsNamed (s : Seen) (bank place : ℕ) : Type 0 where
  pub at : ℕ
  pub answer : AnswerLine
  pub there : slice_get s.answers at ≡ Some answer
  pub bank_is : answer.bank ≡ bank
  pub place_is : answer.place ≡ place

-- each answer names an entry of its processor and has its reply, no two name one entry, and where
-- the last line says that all is complete, each entry has its answer (Herlihy and Wing, TOPLAS
-- 12(3), 1990: a response answers one invocation)
pub record AnswersEntries (lines : List ReportLine) : Type 0 where
  pub named : (i : ℕ) (a : AnswerLine) → slice_get (seen_of lines).answers i ≡ Some a
      → NamesOwnEntry (seen_of lines) a
  pub once : (i j : ℕ) (a b : AnswerLine) → slice_get (seen_of lines).answers i ≡ Some a
      → slice_get (seen_of lines).answers j ≡ Some b → a.bank ≡ b.bank → a.place ≡ b.place → i ≡ j
  pub complete : (before : List ReportLine) → lines ≡ before ++ End true ∷ [] → (bank place : ℕ)
      → place < length (entries_at (seen_of lines).entries bank)
      → IsNamed (seen_of lines) bank place
