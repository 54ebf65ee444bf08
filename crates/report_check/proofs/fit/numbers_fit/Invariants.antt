use Rattle.std.proofs.Common.{All, take}
use Rattle.report_lines.specs.Fits.{FitsLine}
use Rattle.report_check.proofs.fit.numbers_fit.Given as goal

abbrev pub invariant-loop-line : goal.invariant-loop-line
invariant-loop-line l = All FitsLine (take l.line-index l.lines)
