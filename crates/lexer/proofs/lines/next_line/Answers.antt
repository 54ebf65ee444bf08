use Rattle.std.proofs.Common.{arith, rules}
use Rattle.lexer.proofs.LineCuts.{lines_none, lines_some}
use Rattle.lexer.proofs.lines.next_line.Goals as goal

pub returns-then-end-text-clause-some : goal.returns-then-end-text-clause-some
returns-then-end-text-clause-some c =
    lines_none c.args.text.now c.line_end-end.result c.line_end-end.ensures (omega arith) (search rules)

pub returns-clause-some : goal.returns-clause-some
returns-clause-some c =
    rw c.without_return.ensures (lines_some c.args.text.now c.line_end-end.result c.line_end-end.ensures c.if-end-text.false)
