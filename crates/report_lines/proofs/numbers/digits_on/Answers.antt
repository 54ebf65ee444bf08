use Rattle.std.proofs.Common.{◌+◌, drop, ◌∙◌, Some, ap, sym, arith}
use Rattle.std.proofs.lemmas.List.{take_rest}
use Rattle.report_lines.specs.Reading.{digits_on}
use Rattle.report_lines.proofs.Words.{digits_on-digit, digits_on-much, digits_on-end, digits_on-other, digits_on-past}
use Rattle.report_lines.proofs.numbers.digits_on.Goals as goal

pub returns-then-byte-end : goal.returns-then-byte-end
returns-then-byte-end c =
    sym c.loop-at.invariant
    ∙ digits_on-end c.args.end c.loop-at.number c.loop-at.at c.args.text.now c.loop-at-test.true
    (sym c.is_ascii_digit.ensures.value ∙ c.if-not-is_ascii_digit.true) c.if-byte-end.true
    ∙ ap (λ rest. Some (c.loop-at.number, rest)) (sym (take_rest c.args.text.now (c.loop-at.at + 1)))

pub returns-else-byte-end : goal.returns-else-byte-end
returns-else-byte-end c =
    sym c.loop-at.invariant
    ∙ digits_on-other c.args.end c.loop-at.number c.loop-at.at c.args.text.now c.loop-at-test.true
    (sym c.is_ascii_digit.ensures.value ∙ c.if-not-is_ascii_digit.true) c.if-byte-end.false

pub returns-in_default : goal.returns-in_default
returns-in_default c =
    sym c.loop-at.invariant
    ∙ digits_on-much c.args.end c.loop-at.number c.loop-at.at c.args.text.now c.loop-at-test.true
    (sym c.is_ascii_digit.ensures.value ∙ c.if-not-is_ascii_digit.false) c.in_default.ensures

pub loop-at-preserved : goal.loop-at-preserved
loop-at-preserved c =
    ap (λ n. digits_on c.args.end n (drop (c.loop-at.at + 1) c.args.text.now)) c.in-Some.ensures.0
    ∙ sym (digits_on-digit c.args.end c.loop-at.number c.loop-at.at c.args.text.now c.loop-at-test.true
    (sym c.is_ascii_digit.ensures.value ∙ c.if-not-is_ascii_digit.false) (omega (arith, c.in-Some.ensures.0, c.in-Some.ensures.1)))
    ∙ c.loop-at.invariant

pub returns : goal.returns
returns c = sym c.loop-at.invariant ∙ digits_on-past c.args.end c.loop-at.number c.loop-at.at c.args.text.now c.loop-at-test.false
