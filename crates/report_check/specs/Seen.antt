-- What the lines of a report so far say (this project's own format).
use Rattle.std.specs.Prelude.{ℕ, ◌+◌, ◌*◌, ◌==◌, ◌&&◌, List, [], ◌∷◌, ◌++◌, Bool, slice_set}
use Rattle.std.specs.Prelude.{replicate}
use Rattle.std.specs.Prelude.{filter, fold, flat_map}
use Rattle.std.specs.List.{list_any}
use Rattle.std.specs.Option.{option_to_list}
use Rattle.torus.specs.Shape.{product}
use Rattle.packet.specs.declared.kinds.Operation.{Operation}
use Rattle.packet.specs.Memory.{memory_after_one}
use Rattle.report_lines.specs.Line.{radix_list}
use Rattle.report_lines.specs.Contents.{is_newer}
use Rattle.report_lines.specs.declared.line.EntryLine.{EntryLine}
use Rattle.report_lines.specs.declared.line.AnswerLine.{AnswerLine}
use Rattle.report_lines.specs.declared.line.OrderLine.{OrderLine}
use Rattle.report_lines.specs.declared.line.ReportLine.{ReportLine}
use Rattle.report_lines.specs.declared.line.ReportLine.TheVariants.{Header, Shape, Init, Entry}
use Rattle.report_lines.specs.declared.line.ReportLine.TheVariants.{Answer, Word, Order}
use Rattle.report_lines.specs.declared.line.ReportLine.TheVariants.{End}

-- the lines so far by their kinds, and the memory after them
pub record Seen : Type 0 where
  -- the kind of the last line, from 1 for the first line to 8 for the end; 0 before the first
  pub section : ℕ
  pub version : ℕ
  pub tiles : ℕ
  pub words : ℕ
  -- the words by address
  pub memory : List ℕ
  -- the addresses of the `init` lines
  pub inits : List ℕ
  pub entries : List EntryLine
  pub answers : List AnswerLine
  -- the addresses of the `word` lines
  pub told : List ℕ
  pub orders : List OrderLine

-- before the first line
abbrev pub nothing_seen : Seen
nothing_seen = record {
  section = 0;
  version = 0;
  tiles = 0;
  words = 0;
  memory = [];
  inits = [];
  entries = [];
  answers = [];
  told = [];
  orders = [];
}

-- behind the shape: every word is 0
abbrev pub shaped_seen : ℕ → ℕ → ℕ → Seen
shaped_seen version tiles words =
    record {
      section = 2;
      version = version;
      tiles = tiles;
      words = words;
      memory = replicate words 0;
      inits = [];
      entries = [];
      answers = [];
      told = [];
      orders = [];
    }

-- the operation of an entry line
abbrev pub line_operation : EntryLine → Operation
line_operation e = record { address = e.address; op = e.op }

-- with one more line
abbrev pub seen_after : Seen → ReportLine → Seen
seen_after s (Header version) = record s { section = 1; version = version }
seen_after s (Shape radices words) = shaped_seen s.version (product (radix_list radices)) words
seen_after s (Init address value) =
    record s {
      section = 3;
      inits = s.inits ++ address ∷ [];
      memory = slice_set s.memory address value;
    }
seen_after s (Entry e) = record s {
  section = 4;
  entries = s.entries ++ e ∷ [];
  memory = memory_after_one (line_operation e) s.memory;
}
seen_after s (Answer a) = record s { section = 5; answers = s.answers ++ a ∷ [] }
seen_after s (Word address value) = record s { section = 6; told = s.told ++ address ∷ [] }
seen_after s (Order o) = record s { section = 7; orders = s.orders ++ o ∷ [] }
seen_after s (End complete) = record s { section = 8 }

-- what some lines say
abbrev pub seen_of : List ReportLine → Seen
seen_of lines = fold seen_after nothing_seen lines

-- one more than the last of some numbers, or 0: a number rises above them exactly when it is not
-- below this
abbrev pub above_last : List ℕ → ℕ
above_last numbers = fold (λ _ n. n + 1) 0 numbers

-- the bank of the last entry, or 0
abbrev pub last_bank : List EntryLine → ℕ
last_bank entries = fold (λ _ e. e.bank) 0 entries

-- the entries of a bank
abbrev pub entries_at : List EntryLine → ℕ → List EntryLine
entries_at entries bank = filter (λ e. e.bank == bank) entries

-- whether some entry is one of and, or, xor, max and min
abbrev pub has_newer : List EntryLine → Bool
has_newer entries = list_any (λ e. is_newer e.op) entries

-- whether an answer names the entry at a place of a bank
abbrev pub is_answered : List AnswerLine → ℕ → ℕ → Bool
is_answered answers bank place = list_any (λ a. (a.bank == bank) && (a.place == place)) answers

-- indexes are below 4096, so this rises by processor, and then by index
abbrev pub key_of : AnswerLine → ℕ
key_of a = 4096 * a.processor + a.index

-- the order lines of a bank
abbrev pub orders_at : List OrderLine → ℕ → List OrderLine
orders_at orders bank = filter (λ o. o.bank == bank) orders

-- the event numbers of an order line
abbrev pub events_in : OrderLine → List ℕ
events_in o = o.issued ∷ o.served ∷ option_to_list o.answered

-- whether an order line names the event
abbrev pub is_named : List OrderLine → ℕ → Bool
is_named orders event = list_any (λ n. n == event) (flat_map events_in orders)
