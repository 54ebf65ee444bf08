-- The lines of the report of given contents (this project's own format).
use Rattle.std.specs.Prelude.{◌≡◌, ◌≤◌, ℕ, List, All, Bool, length}
use Rattle.torus.specs.Shape.{Shape}
use Rattle.report_lines.specs.declared.line.OrderLine.{OrderLine}
use Rattle.report_lines.specs.declared.line.ReportLine.{ReportLine}
use Rattle.report_lines.specs.declared.parts.AnswerRow.{AnswerRow}
use Rattle.report_lines.specs.declared.parts.EntryRow.{EntryRow}
use Rattle.report_lines.specs.declared.parts.Parts.{Parts}
use Rattle.report_lines.specs.Contents.{items_of, report_lines_of}

-- what a report is made of: a shape, the opening words, the entries of each bank, the answers of
-- each processor, the last words, the order of service, and whether every script is finished
pub record Contents : Type 0 where
  pub shape : Shape
  pub opening : List ℕ
  pub entries : List (List EntryRow)
  pub answers : List (List AnswerRow)
  pub last : List ℕ
  pub order : List OrderLine
  pub finished : Bool

-- the lines of the report of these contents
abbrev pub lines_of_contents : Contents → List ReportLine
lines_of_contents c =
    report_lines_of c.shape c.opening c.entries c.answers c.last c.order c.finished

-- contents that a report has room for
pub record FitReport (c : Contents) : Type 0 where
  pub opening : length c.opening ≤ 65536
  pub banks : length c.entries ≤ 64
  pub places : All (λ es. length es ≤ 65536) c.entries
  pub processors : length c.answers ≤ 64
  pub last : length c.last ≡ length c.opening

-- what these parts are the contents of
abbrev pub contents_of : {A : Type 0} → Parts A → Contents
contents_of parts = record {
  shape = parts.torus;
  opening = parts.opening.items;
  entries = items_of parts.entries.items;
  answers = items_of parts.answers.items;
  last = parts.last.items;
  order = parts.order.items;
  finished = parts.finished;
}

-- the lines of the report of these parts
abbrev pub lines_of_parts : {A : Type 0} → Parts A → List ReportLine
lines_of_parts parts = lines_of_contents (contents_of parts)
