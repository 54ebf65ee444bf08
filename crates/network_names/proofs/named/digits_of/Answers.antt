use Rattle.std.proofs.Common.{not, sym, ap, arith}
use Rattle.std.specs.Char.{is_ascii_digit}
use Rattle.std.proofs.lemmas.List.Sums.{position_or_len_is}
use Rattle.network_names.proofs.named.digits_of.Goals as goal

pub returns-then-not-is_ascii_digit-clause-value :
    goal.returns-then-not-is_ascii_digit-clause-value
returns-then-not-is_ascii_digit-clause-value c =
    sym (position_or_len_is (λ b. not (is_ascii_digit b)) c.args.word.now c.loop-i.i 0 (omega arith) c.loop-i.invariant
    (λ _. ap not (sym c.if-not-is_ascii_digit.ensures.value)))

pub returns-clause-value : goal.returns-clause-value
returns-clause-value c =
    sym (position_or_len_is (λ b. not (is_ascii_digit b)) c.args.word.now _ 0 (omega arith) (λ k h. c.loop-i.invariant k (omega arith)) (λ h. absurd (omega arith)))
