use Rattle.script.proofs.PlainLines.{one_digit, two_digits, three_digits}
use Rattle.script.proofs.plain.front_number.Goals as goal

pub returns-in_default-clause-number : goal.returns-in_default-clause-number
returns-in_default-clause-number c =
    one_digit c.args.text.now c.in_ok-hundreds.rest.now c.in_ok-hundreds.hundreds c.in_ok-hundreds.ensures.within c.in_ok-hundreds.ensures.digit

pub returns-in_default-front_digit-clause-number :
    goal.returns-in_default-front_digit-clause-number
returns-in_default-front_digit-clause-number c =
    two_digits c.args.text.now c.in_ok-hundreds.rest.now c.in-Some.after.now c.in_ok-hundreds.hundreds c.in-Some.tens
    c.in_ok-hundreds.ensures.within c.in-Some.ensures.within c.in_ok-hundreds.ensures.digit c.in-Some.ensures.digit

pub returns-clause-number : goal.returns-clause-number
returns-clause-number c =
    three_digits c.args.text.now c.in_ok-hundreds.rest.now c.in-Some.after.now c.in-Some-front_digit.last.now
    c.in_ok-hundreds.hundreds c.in-Some.tens c.in-Some-front_digit.ones
    c.in_ok-hundreds.ensures.within c.in-Some.ensures.within c.in-Some-front_digit.ensures.within
    c.in_ok-hundreds.ensures.digit c.in-Some.ensures.digit c.in-Some-front_digit.ensures.digit
