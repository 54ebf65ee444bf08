use Rattle.std.proofs.Common.{sym, eq-eqb, arith}
use Rattle.std.proofs.lemmas.List.Sums.{position_or_len_is}
use Rattle.network_text.specs.Ranges.{is_dash}
use Rattle.network_text.proofs.ranges.dash_at.Goals as goal

pub returns-then-byte-eq45-clause-value : goal.returns-then-byte-eq45-clause-value
returns-then-byte-eq45-clause-value c =
    sym (position_or_len_is is_dash c.args.part.now c.loop-i.i 0 (omega arith) c.loop-i.invariant (λ _. eq-eqb _ 45 c.if-byte-eq45.true))

pub returns-clause-value : goal.returns-clause-value
returns-clause-value c =
    sym (position_or_len_is is_dash c.args.part.now _ 0 (omega arith) (λ k h. c.loop-i.invariant k (omega arith)) (λ h. absurd (omega arith)))
