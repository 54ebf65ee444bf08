use Rattle.std.proofs.Common.{◌≡◌, drop}
use Rattle.report_lines.specs.Reading.{digits_on}
use Rattle.report_lines.proofs.numbers.digits_on.Given as goal

-- what is left goes on from the number so far
abbrev pub invariant-loop-at : goal.invariant-loop-at
invariant-loop-at l = digits_on l.end l.number (drop l.at l.text) ≡ digits_on l.end l.fn.first l.text
