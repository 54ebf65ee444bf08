use Rattle.std.proofs.Common.{All, subst}
use Rattle.torus.specs.Shape.{IsAccepted}
use Rattle.report_lines.specs.Fits.{FitsLine}
use Rattle.trace_answer.proofs.Goodness.{good_report}
use Rattle.trace_answer.proofs.report.goodness.Goals as goal

pub returns : goal.returns
returns g c = good_report c.args.trace.now c.args.order.now c.args.report.now c.contents_are_good.ensures
    (subst IsAccepted c.requires.torus c.tiles-tiles.ensures.accepted)
    (rw (c.tiles-tiles.ensures.value, c.requires.torus) at c.tiles-tiles.ensures.some)
    c.requires.whole c.requires.explains c.requires.fit c.requires.report
    (subst (All FitsLine) c.lines.ensures c.numbers_fit.ensures)
