-- A report has room for what is reported of a machine.
use Rattle.std.proofs.Common.{◌<◌, List, [], length, map, ap, arith, slice_index_or}
use Rattle.std.proofs.lemmas.List.{length-map, get_or-map}
use Rattle.report_lines.specs.declared.line.OrderLine.{OrderLine}
use Rattle.report_lines.specs.Parts.{FitReport}
use Rattle.core_laws.specs.Machine.{Core, shown}
use Rattle.machine_report.specs.Report.{IsWithinLimits, answer_row, contents_with, entry_row}

pub fit_report : (c : Core) (order : List OrderLine) → IsWithinLimits c → FitReport (contents_with c order)
fit_report c order fits =
    record {
      opening = fits.words;
      banks =
          let count = length-map (shown c).entries (map entry_row) in
          let same = fits.banks in
          let few = fits.tiles in
          omega (arith, count, same, few);
      places = λ k d below.
          let count = length-map (shown c).entries (map entry_row) in
          let inside : k < length (shown c).entries = omega (arith, below, count) in
          let row = ap length (get_or-map (map entry_row) (shown c).entries k [] d inside) in
          let size = length-map (slice_index_or (shown c).entries k []) entry_row in
          let few = fits.places k [] inside in
          omega (arith, row, size, few);
      processors =
          let count = length-map (shown c).answers (map answer_row) in
          let same = fits.processors in
          let few = fits.tiles in
          omega (arith, count, same, few);
      last = fits.memory;
    }
