use Rattle.script.proofs.PlainLines.{line_of_two, line_of_three}
use Rattle.script.proofs.plain.plain_attempt.Goals as goal

pub returns-in-Some-clause-line : goal.returns-in-Some-clause-line
returns-in-Some-clause-line c =
    line_of_two c.args.text.now c.in_ok-agent.rest.now c.in_ok-after_byte.field-0.now c.in_ok-word.rest.now c.in-Some.rest.now
    c.in_ok-agent.agent c.in_ok-word.word c.in_ok-agent.ensures.number c.in_ok-after_byte.ensures c.in_ok-word.ensures.choice c.in-Some.ensures

pub returns-clause-line : goal.returns-clause-line
returns-clause-line c =
    line_of_three c.args.text.now c.in_ok-agent.rest.now c.in_ok-after_byte.field-0.now c.in_ok-word.rest.now
    c.in_ok-after_byte-2.field-0.now c.in_ok-number.rest.now c.in_ok-rest.rest.now
    c.in_ok-agent.agent c.in_ok-number.number c.in_ok-word.word
    c.in_ok-agent.ensures.number c.in_ok-after_byte.ensures c.in_ok-word.ensures.choice c.in_ok-after_byte-2.ensures
    c.in_ok-number.ensures.number c.in_ok-rest.ensures
