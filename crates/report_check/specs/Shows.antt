-- What the checker keeps of the lines so far.
use Rattle.std.specs.Prelude.{◌≡◌, ℕ, ◌≤◌, List, [], ◌∷◌, length, map, Bool, true, false, zero}
use Rattle.std.specs.Prelude.{suc, Option, Some, None}
use Rattle.std.specs.Prelude.{slice_index, slice_index_or, slice_get, option_map, Vec}
use Rattle.report_lines.specs.declared.line.EntryLine.{EntryLine}
use Rattle.report_lines.specs.declared.line.AnswerLine.{AnswerLine}
use Rattle.report_lines.specs.declared.line.OrderLine.{OrderLine}
use Rattle.report_lines.specs.declared.line.ReportLine.{ReportLine}
use Rattle.report_check.specs.declared.checker.Served.{Served}
use Rattle.report_check.specs.declared.checker.Checker.{Checker}
use Rattle.report_check.specs.Seen.{Seen, seen_after, above_last, last_bank, entries_at, has_newer}
use Rattle.report_check.specs.Seen.{is_answered, key_of}
use Rattle.report_check.specs.Seen.{orders_at, is_named}
use Rattle.report_check.specs.Good.{ToldBelow}
use Rattle.report_check.specs.Broken.{line_broken}
use Rattle.report_check.specs.declared.rule.Rule.{Rule}

-- what is kept of an entry
abbrev pub kept : List AnswerLine → ℕ → ℕ → EntryLine → Served
kept answers bank place e =
    record { source = e.source; reply = e.reply; answered = is_answered answers bank place }

-- what is kept of the entries of a bank
abbrev pub bank_of : {A : Type 0} → List (Vec Served A) → ℕ → List Served
bank_of banks bank = slice_index_or (map (λ v. v.items) banks) bank []

-- the entry at that place has an answer from now on
abbrev pub marked : List Served → ℕ → List Served
marked [] place = []
marked (k ∷ ks) zero = record k { answered = true } ∷ ks
marked (k ∷ ks) (suc place) = k ∷ marked ks place

-- the entries and their answers
pub record EntriesShown {A : Type 0} (entries : List EntryLine) (answers : List AnswerLine)
    (last count : ℕ)
    (newer : Bool) (banks : List (Vec Served A)) : Type 0 where
  pub last_bank : last ≡ last_bank entries
  pub count_is : count ≡ length entries
  pub newer_is : newer ≡ has_newer entries
  pub sized : (bank : ℕ) → length (bank_of banks bank) ≡ length (entries_at entries bank)
  pub each : (bank place : ℕ)
      → slice_get (bank_of banks bank) place
      ≡ option_map (kept answers bank place) (slice_get (entries_at entries bank) place)

-- the order lines and their events
pub record OrdersShown (orders : List OrderLine) (next : ℕ) (ordered : List ℕ)
    (used : List Bool) : Type 0 where
  pub next_is : next ≡ above_last (map (λ x. x.served) orders)
  pub at_bank : (bank : ℕ) → slice_index ordered bank ≡ length (orders_at orders bank)
  pub named : (event : ℕ) → event ≤ 196608 → slice_index_or used event false ≡ is_named orders event

-- what is kept of what was seen
pub record KeepsSeen {A : Type 0} (s : Seen) (c : Checker A) : Type 0 where
  pub section : c.section ≡ s.section
  pub version : c.version ≡ s.version
  pub tiles : c.tiles ≡ s.tiles
  pub words : c.words ≡ s.words
  pub memory : c.memory.items ≡ s.memory
  pub next_init : c.next_init ≡ above_last s.inits
  pub entries : EntriesShown s.entries s.answers c.last_bank c.entry_count c.has_newer c.banks.items
  pub next_answer : c.next_answer ≡ above_last (map key_of s.answers)
  pub next_word : c.next_word ≡ above_last s.told
  pub orders : OrdersShown s.orders c.next_served c.ordered.items c.used.items
  pub unanswered : s.section ≤ 4 → s.answers ≡ []
  pub told : s.section ≡ 7 → ToldBelow s.told s.memory s.words

-- what a check of one more line answers and leaves
abbrev pub Checks : {A : Type 0} → Seen → ReportLine → Option Rule → Checker A → Type 0
Checks s line None new = (line_broken s line ≡ None) × KeepsSeen (seen_after s line) new
Checks s line (Some rule) new = line_broken s line ≡ Some rule
