use Rattle.std.proofs.Common.{ap, length, map, take, rules}
use Rattle.std.specs.Str.Lines.{lines}
use Rattle.script.proofs.PlainLines.{said_by_words, some_line}
use Rattle.script.proofs.steps.take_words_of_line.Goals as goal

pub returns-in_default-clause-rest : goal.returns-in_default-clause-rest
returns-in_default-clause-rest g c = absurd (some_line c.args.text.now c.requires.some (ap length c.in_default.ensures.none))

pub returns-in_default-clause-less : goal.returns-in_default-clause-less
returns-in_default-clause-less g c = absurd (some_line c.args.text.now c.requires.some (ap length c.in_default.ensures.none))

pub returns-in_err-take_words-clause-steps : goal.returns-in_err-take_words-clause-steps
returns-in_err-take_words-clause-steps g c =
    rw (said_by_words c.args.tiles c.args.dims c.args.steps.now.items c.args.text.now c.in-Some.line.now (lines c.in-Some.rest.now)
    (map (λ word. word.now) (take c.first_words-count.result.1 c.first_words-count.result.0)) c.in-Some.ensures.some c.first_words-count.ensures.words)
    (search rules)
