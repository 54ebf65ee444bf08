use Rattle.std.proofs.Common.{◌+◌, length, get_or, drop, take, sym, ap, ◌∙◌, arith}
use Rattle.std.specs.List.{position_or_len}
use Rattle.std.proofs.lemmas.Bool.{eq-eqb}
use Rattle.std.proofs.lemmas.List.{drop_all, take_all, take_rest}
use Rattle.std.proofs.lemmas.List.Sums.{position_or_len_is}
use Rattle.report_lines.specs.Reading.{is_space}
use Rattle.report_lines.proofs.operation.next_word.Goals as goal

pub returns-then-byte-eq32-clause-word : goal.returns-then-byte-eq32-clause-word
returns-then-byte-eq32-clause-word c =
    ap (λ at. take at c.args.text.now)
    (sym (position_or_len_is is_space c.args.text.now c.loop-at.at 0 (omega (arith, c.loop-at-test.true)) c.loop-at.invariant (λ _. eq-eqb (get_or c.args.text.now c.loop-at.at 0) 32 c.if-byte-eq32.true)))

pub returns-then-byte-eq32-clause-rest : goal.returns-then-byte-eq32-clause-rest
returns-then-byte-eq32-clause-rest c =
    take_rest c.args.text.now (c.loop-at.at + 1)
    ∙ ap (λ at. drop (at + 1) c.args.text.now)
    (sym (position_or_len_is is_space c.args.text.now c.loop-at.at 0 (omega (arith, c.loop-at-test.true)) c.loop-at.invariant (λ _. eq-eqb (get_or c.args.text.now c.loop-at.at 0) 32 c.if-byte-eq32.true)))

pub returns-clause-word : goal.returns-clause-word
returns-clause-word c =
    let at = position_or_len_is is_space c.args.text.now (length c.args.text.now) 0 (omega arith) (λ k h. c.loop-at.invariant k (omega arith)) (λ h. absurd (omega arith)) in
    sym (ap (λ at. take at c.args.text.now) at ∙ take_all _ c.args.text.now (omega arith))

pub returns-clause-rest : goal.returns-clause-rest
returns-clause-rest c =
    let at = position_or_len_is is_space c.args.text.now (length c.args.text.now) 0 (omega arith) (λ k h. c.loop-at.invariant k (omega arith)) (λ h. absurd (omega arith)) in
    sym (drop_all (position_or_len is_space c.args.text.now + 1) c.args.text.now (omega (arith, at)))
