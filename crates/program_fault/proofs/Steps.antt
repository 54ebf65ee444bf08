-- One more line of a text, for the origin of a word.
use Rattle.std.proofs.Common.{◌≡◌, ℕ, ◌+◌, ◌-◌, ◌<◌, List, suc, Some, ap, ◌∙◌, arith}
use Rattle.report_lines.specs.declared.line.ReportLine.{ReportLine}
use Rattle.report_lines.specs.Reading.{report_line_at}
use Rattle.program_fault.specs.declared.origin.Origin.{Origin}
use Rattle.program_fault.specs.Origins.{origin_at, origin_behind, origin_before}

pub goes_on : (address number line : ℕ) (found : Origin) (text rest : List ℕ) (read : ReportLine) → number < line → report_line_at text ≡ Some (read, rest)
    → origin_before address number found text (line - number)
    ≡ origin_before address (number + 1) (origin_at address number read found) rest (line - (number + 1))
goes_on address number line found text rest read low is =
    let left : line - number ≡ suc (line - (number + 1)) = omega (arith, low) in
    ap (λ n. origin_before address number found text n) left
    ∙ ap (λ r. origin_behind address number found r (λ now more. origin_before address (number + 1) now more (line - (number + 1)))) is
