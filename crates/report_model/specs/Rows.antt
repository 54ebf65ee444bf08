-- The operations of a report: in the order of service, and in the order of issue (this project's own
-- format).
use Rattle.std.specs.Prelude.{ℕ, ◌+◌, ◌*◌, ◌==◌, ◌||◌, List, fold, map, nat_lt, not, Option, option_map}
use Rattle.std.specs.Prelude.{if◌then◌else◌}
use Rattle.std.specs.List.{filter_map, find, range_with_len}
use Rattle.report_lines.specs.declared.line.OrderLine.{OrderLine}
use Rattle.report_check.specs.Seen.{line_operation}
use Rattle.report_model.specs.declared.row.ReportRow.{ReportRow}
use Rattle.report_model.specs.declared.run.ServedLine.{ServedLine}
use Rattle.report_model.specs.Run.{ModelledRun}

-- the bank and the place of an entry as one number: a bank has at most 65536 entries
abbrev pub entry_key : ServedLine → ℕ
entry_key s = 65536 * s.entry.bank + s.entry.place

-- those that an order line names
abbrev pub order_key : OrderLine → ℕ
order_key o = 65536 * o.bank + o.place

-- the first entry of a bank and place
abbrev pub entry_of_key : List ServedLine → ℕ → Option ServedLine
entry_of_key entries x = find (λ s. entry_key s == x) entries

-- the entry that an order line names
abbrev pub entry_ordered : List ServedLine → OrderLine → Option ServedLine
entry_ordered entries o = entry_of_key entries (order_key o)

-- the operation of an entry and its order line
abbrev pub report_row_of : ServedLine → OrderLine → ReportRow
report_row_of s o = record {
  line = s.line;
  source = s.entry.source;
  operation = line_operation s.entry;
  reply = s.entry.reply;
  issued = o.issued;
}

-- the operation of an order line
abbrev pub row_ordered : List ServedLine → OrderLine → Option ReportRow
row_ordered entries o = option_map (λ s. report_row_of s o) (entry_ordered entries o)

-- the operations by their services, in the order of the order lines
abbrev pub rows_of : ModelledRun → List ReportRow
rows_of r = filter_map (row_ordered r.entries) r.orders

-- the operation whose issue has a number
abbrev pub row_issued : List ReportRow → ℕ → Option ReportRow
row_issued rows n = find (λ row. row.issued == n) rows

-- the numbers of their issues
abbrev pub issues_of_rows : List ReportRow → List ℕ
issues_of_rows rows = map (λ row. row.issued) rows

-- a limit that is above a number, too, if that can be an event's, which are below 196609
abbrev pub limit_above : ℕ → ℕ → ℕ
limit_above limit number =
    if nat_lt number limit || not (nat_lt number 196609) then limit else number + 1

-- a limit above the numbers of events
abbrev pub event_limit : List ℕ → ℕ
event_limit numbers = fold limit_above 0 numbers

-- the operations by their issues
abbrev pub made_of : List ReportRow → List ReportRow
made_of rows = filter_map (row_issued rows) (range_with_len 0 (event_limit (issues_of_rows rows)))
