use Rattle.std.proofs.Common.{sym, arith}
use Rattle.std.proofs.lemmas.List.Sums.{position_or_len_is}
use Rattle.lexer.proofs.WordCuts.{is_letter}
use Rattle.model_text.proofs.words.blanks_end.Goals as goal

pub returns-then-not-is_blank-clause-value : goal.returns-then-not-is_blank-clause-value
returns-then-not-is_blank-clause-value c =
    sym (position_or_len_is is_letter c.args.line.now c.loop-i.i 0 (omega arith) c.loop-i.invariant (λ _. cc))

pub returns-clause-value : goal.returns-clause-value
returns-clause-value c =
    sym (position_or_len_is is_letter c.args.line.now _ 0 (omega arith) (λ k h. c.loop-i.invariant k (omega arith)) (λ h. absurd (omega arith)))
