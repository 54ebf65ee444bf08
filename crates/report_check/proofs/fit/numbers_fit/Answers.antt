use Rattle.std.proofs.Common.{All, subst}
use Rattle.std.proofs.lemmas.List.{take_all}
use Rattle.std.proofs.lemmas.List.Elements.{All-more}
use Rattle.report_lines.specs.Fits.{FitsLine}
use Rattle.report_check.proofs.fit.numbers_fit.Goals as goal

pub loop-line-preserved : goal.loop-line-preserved
loop-line-preserved c = All-more FitsLine c.args.lines.now c.loop-line.line-index _ c.loop-line-test.true c.loop-line.invariant c.line_fits.ensures

pub returns : goal.returns
returns c = subst (All FitsLine) (take_all c.loop-line.line-index c.args.lines.now c.loop-line-test.false) c.loop-line.invariant
