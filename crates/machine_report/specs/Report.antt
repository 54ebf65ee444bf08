-- What the report of a run says (this project's own format).
use Rattle.std.specs.Prelude.{◌≡◌, ◌≤◌, ◌⊎◌, ℕ, All, Bool, List, [], length, map}
use Rattle.torus.specs.Shape.{Shape, tiles_of}
use Rattle.home_bank.specs.declared.entry.Entry.{Entry}
use Rattle.one_order.specs.declared.answer.Answer.{Answer}
use Rattle.one_order.specs.declared.ordered.Ordered.{Ordered}
use Rattle.report_lines.specs.declared.line.OrderLine.{OrderLine}
use Rattle.report_lines.specs.declared.line.ReportLine.{ReportLine}
use Rattle.report_lines.specs.declared.parts.EntryRow.{EntryRow}
use Rattle.report_lines.specs.declared.parts.AnswerRow.{AnswerRow}
use Rattle.report_lines.specs.Contents.{report_lines_of}
use Rattle.report_lines.specs.Parts.{Contents, lines_of_contents}
use Rattle.one_order.specs.Observed.{Observed, event_count}
use Rattle.core_laws.specs.Machine.{Core, shown, all_finished}

-- what is reported of a service
abbrev pub entry_row : Entry → EntryRow
entry_row e = record {
  source = e.source;
  tag = e.tag.0;
  address = e.address;
  op = e.op;
  reply = e.reply;
}

-- what is reported of an answer
abbrev pub answer_row : Answer → AnswerRow
answer_row a = record { index = a.index; bank = a.bank; place = a.place; reply = a.reply }

-- what is reported of an operation's place in the one order: the service, and the numbers of its
-- events
abbrev pub order_line : Ordered → OrderLine
order_line r = record {
  bank = r.bank;
  place = r.place;
  issued = r.issued;
  served = r.served;
  answered = r.answered;
}

-- the report of a run: the torus, the opening words, the entries, answers and words that are shown,
-- the rows of the one order, if there are any, and whether every script is finished
abbrev pub report_of : Shape → List ℕ → Observed → List Ordered → Bool → List ReportLine
report_of shape opening seen rows finished =
    report_lines_of shape opening (map (map entry_row) seen.entries)
    (map (map answer_row) seen.answers) seen.memory (map order_line rows) finished

-- the report of a machine
abbrev pub machine_report : Core → List ReportLine
machine_report c = report_of c.shape c.opening (shown c) c.book.rows (all_finished c.state)

-- what is reported of a machine, with these order lines
abbrev pub contents_with : Core → List OrderLine → Contents
contents_with c order = record {
  shape = c.shape;
  opening = c.opening;
  entries = map (map entry_row) (shown c).entries;
  answers = map (map answer_row) (shown c).answers;
  last = (shown c).memory;
  order = order;
  finished = all_finished c.state;
}

-- the report of a machine, with these order lines
abbrev pub report_with : Core → List OrderLine → List ReportLine
report_with c order = lines_of_contents (contents_with c order)

-- the report of a machine, without order lines or with those of its one order
abbrev pub IsReportOf : Core → List ReportLine → Type 0
IsReportOf c lines = (lines ≡ report_with c []) ⊎ (lines ≡ machine_report c)

-- a machine has a bank and a processor for each of at most 64 tiles, a word for each of at most
-- 65536 addresses, at most 65536 entries in each bank, and at most 196608 events (this project's
-- own format)
pub record IsWithinLimits (c : Core) : Type 0 where
  pub tiles : tiles_of c.shape ≤ 64
  pub banks : length (shown c).entries ≡ tiles_of c.shape
  pub processors : length (shown c).answers ≡ tiles_of c.shape
  pub words : length c.opening ≤ 65536
  pub memory : length (shown c).memory ≡ length c.opening
  pub places : All (λ es. length es ≤ 65536) (shown c).entries
  pub events : event_count (shown c) ≤ 196608
