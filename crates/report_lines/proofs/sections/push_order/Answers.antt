use Rattle.std.proofs.Common.{◌++◌, ◌∙◌, ap}
use Rattle.std.specs.Option.{option_to_list}
use Rattle.report_lines.proofs.Pieces.{each_next, order_from, order_is}
use Rattle.report_lines.proofs.sections.push_order.Goals as goal

pub loop-number-preserved : goal.loop-number-preserved
loop-number-preserved g c =
    each_next order_from order_is c.loop-number.lines.items _ _ (g.S.Shows.contents c.args.shown.now).order c.loop-number.number
    (c.in_ok-push_service.ensures ∙ ap (λ o. c.loop-number.lines.items ++ order_from c.loop-number.number (option_to_list o)) c.order_line.ensures)
    c.loop-number.invariant
