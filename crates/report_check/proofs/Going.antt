-- Lines that go on to the end of a good report.
use Rattle.std.proofs.Common.{◌≡◌, ℕ, List, [], ◌∷◌, fold}
use Rattle.std.specs.List.{AllByRecursion}
use Rattle.report_lines.specs.declared.line.EntryLine.{EntryLine}
use Rattle.report_lines.specs.declared.line.AnswerLine.{AnswerLine}
use Rattle.report_lines.specs.declared.line.OrderLine.{OrderLine}
use Rattle.report_lines.specs.declared.line.ReportLine.{ReportLine}
use Rattle.report_lines.specs.Fits.{FitsLine}
use Rattle.report_check.specs.Seen.{Seen, nothing_seen, seen_after}
use Rattle.report_check.specs.Good.{Allowed, AllStand, AreGood}

-- each line breaks no rule behind those before it, and the last one is the end
abbrev pub GoesOn : Seen → List ReportLine → Type 0
GoesOn s [] = s.section ≡ 8
GoesOn s (line ∷ lines) = Allowed s line × GoesOn (seen_after s line) lines

stands : (s : Seen) (lines : List ReportLine) → AllByRecursion FitsLine lines → GoesOn s lines → AllStand s lines
stands s [] fits on = tt
stands s (line ∷ lines) fits on = (record { fits = fits.0; allowed = on.0 }, stands (seen_after s line) lines fits.1 on.1)

ends : (s : Seen) (lines : List ReportLine) → GoesOn s lines → (fold seen_after s lines).section ≡ 8
ends s [] on = on
ends s (line ∷ lines) on = ends (seen_after s line) lines on.1

pub going_good : (lines : List ReportLine) → AllByRecursion FitsLine lines → GoesOn nothing_seen lines → AreGood lines
going_good lines fits on = record { each = stands nothing_seen lines fits on; ended = ends nothing_seen lines on }

-- what was seen, field by field
abbrev pub seen_at : ℕ → ℕ → ℕ → ℕ → List ℕ → List ℕ → List EntryLine → List AnswerLine → List ℕ → List OrderLine → Seen
seen_at section version tiles words memory inits entries answers told orders =
    record {
      section = section;
      version = version;
      tiles = tiles;
      words = words;
      memory = memory;
      inits = inits;
      entries = entries;
      answers = answers;
      told = told;
      orders = orders;
    }
