-- Why a text is no good report (this project's own format).
use Rattle.std.specs.Prelude.{◌≡◌, ℕ, ◌+◌, List, ◌++◌, Option, Some, None, length}
use Rattle.report_lines.specs.Line.{text_of}
use Rattle.report_lines.specs.declared.line.ReportLine.{ReportLine}
use Rattle.report_check.specs.Seen.{nothing_seen, seen_of}
use Rattle.report_check.specs.Good.{AllStand, GoodReport, IsStuck}
use Rattle.report_check.specs.declared.rule.BadReport.{BadReport}
use Rattle.report_check.specs.Broken.{broken}

-- the lines before the bad one stand, the text goes on with no line that may stand behind them, and
-- the rule is the first that it breaks
pub record HasReason (text : List ℕ) (bad : BadReport) : Type 0 where
  pub lines : List ReportLine
  pub rest : List ℕ
  pub printed : text ≡ text_of lines ++ rest
  pub each : AllStand nothing_seen lines
  pub counted : bad.line ≡ length lines + 1
  pub stuck : IsStuck (seen_of lines) rest
  pub rule : broken (seen_of lines) rest ≡ Some bad.rule

-- a report is good where nothing is said of it, else it is bad for that reason
abbrev pub Judges : List ℕ → Option BadReport → Type 0
Judges text None = GoodReport text
Judges text (Some bad) = HasReason text bad
