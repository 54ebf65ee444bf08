-- What holds of lines that stand, one after the other.
use Rattle.std.proofs.Common.{List, [], ◌∷◌, fold}
use Rattle.report_lines.specs.declared.line.ReportLine.{ReportLine}
use Rattle.report_check.specs.Seen.{Seen, seen_after}
use Rattle.report_check.specs.Good.{MayStand, AllStand}

-- what each line keeps holds behind all of them
pub kept_by_all : {X : Type 0} (step : X → ReportLine → X) (P : X → Seen → Type 0)
    → ((x : X) (s : Seen) (line : ReportLine) → MayStand s line → P x s → P (step x line) (seen_after s line)) → (x : X) (s : Seen) (lines : List ReportLine)
    → AllStand s lines → P x s → P (fold step x lines) (fold seen_after s lines)
kept_by_all step P each x s [] stand p = p
kept_by_all step P each x s (line ∷ lines) stand p = kept_by_all step P each (step x line) (seen_after s line) lines stand.1 (each x s line stand.0 p)
