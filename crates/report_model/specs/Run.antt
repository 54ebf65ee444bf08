-- What the lines of a report say of its run (this project's own format).
use Rattle.std.specs.Prelude.{ℕ, ◌+◌, List, [], ◌∷◌, ◌++◌, fold, Option, Some, None}
use Rattle.report_lines.specs.declared.line.OrderLine.{OrderLine}
use Rattle.report_lines.specs.declared.line.Radices.{Radices}
use Rattle.report_lines.specs.declared.line.ReportLine.{ReportLine}
use Rattle.report_lines.specs.declared.line.ReportLine.TheVariants.{Header, Shape, Init, Entry}
use Rattle.report_lines.specs.declared.line.ReportLine.TheVariants.{Answer, Word, Order}
use Rattle.report_lines.specs.declared.line.ReportLine.TheVariants.{End}
use Rattle.report_model.specs.declared.entry.LineEntry.{LineEntry}
use Rattle.report_model.specs.declared.entry.LogEntry.TheVariants as entry
use Rattle.report_model.specs.declared.run.RunLines.{RunLines}
use Rattle.report_model.specs.declared.run.ServedLine.{ServedLine}

-- how many lines there are, the radices and the number of words, the opening words, and the entries,
-- each with its line, and the order lines
pub record ModelledRun : Type 0 where
  pub count : ℕ
  pub radices : Option Radices
  pub words : ℕ
  pub inits : List LineEntry
  pub entries : List ServedLine
  pub orders : List OrderLine

-- before the first line
abbrev pub nothing_run : ModelledRun
nothing_run =
    record { count = 0; radices = None; words = 0; inits = []; entries = []; orders = [] }

-- with one more line
abbrev pub run_after : ModelledRun → ReportLine → ModelledRun
run_after r (Header version) = record r { count = r.count + 1 }
run_after r (Shape radices words) =
    record r { count = r.count + 1; radices = Some radices; words = words }
run_after r (Init address word) = record r {
  count = r.count + 1;
  inits = r.inits ++ (record { line = r.count + 1; entry = entry.Init address word }) ∷ [];
}
run_after r (Entry e) = record r {
  count = r.count + 1;
  entries = r.entries ++ (record { line = r.count + 1; entry = e }) ∷ [];
}
run_after r (Answer a) = record r { count = r.count + 1 }
run_after r (Word address word) = record r { count = r.count + 1 }
run_after r (Order o) = record r { count = r.count + 1; orders = r.orders ++ o ∷ [] }
run_after r (End complete) = record r { count = r.count + 1 }

-- what the lines of a report say
abbrev pub report_run_of : List ReportLine → ModelledRun
report_run_of lines = fold run_after nothing_run lines

-- what the lines of a report say, by what the program keeps of them
abbrev pub run_seen : {A : Type 0} → RunLines A → ModelledRun
run_seen r = record {
  count = r.count;
  radices = r.radices;
  words = r.words;
  inits = r.inits.items;
  entries = r.entries.items;
  orders = r.orders.items;
}
