use Rattle.std.proofs.Common.{◌≡◌, ◌++◌, drop}
use Rattle.report_lines.proofs.Pieces.{order_from}
use Rattle.report_lines.proofs.sections.push_order.Given as goal

-- the lines so far and those of the services that are left are all the lines
abbrev pub invariant-loop-number : goal.invariant-loop-number
invariant-loop-number g l =
    l.lines.items ++ order_from l.number (drop l.number (g.S.Shows.contents l.shown).order)
    ≡ l.fn.lines.items ++ order_from 0 (g.S.Shows.contents l.shown).order
