use Rattle.std.proofs.Common.{sym, refl, arith}
use Rattle.std.proofs.lemmas.List.Sums.{position_or_len_is}
use Rattle.lexer.proofs.LineCuts.{is_feed}
use Rattle.lexer.proofs.lines.line_end.Goals as goal

pub returns-then-b-eq10 : goal.returns-then-b-eq10
returns-then-b-eq10 c =
    sym (position_or_len_is is_feed c.args.text.now c.loop-i.i 0 (omega arith) c.loop-i.invariant (λ _. rw c.if-b-eq10.true refl))

pub returns : goal.returns
returns c =
    sym (position_or_len_is is_feed c.args.text.now _ 0 (omega arith) (λ k h. c.loop-i.invariant k (omega arith)) (λ h. absurd (omega arith)))
