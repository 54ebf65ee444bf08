-- The getter reads the text of the argument.
use Rattle.std.specs.Str.Parse.{ExplainsUnsignedError, HasUnsignedDigitsIfOk}
use Rattle.clap.specs.Words.{found_of}
use Rattle.command_line.proofs.Rows.{no_number_read, number_read}
use Rattle.command_line.proofs.values.long_number.Goals as goal

pub returns-clause-number : goal.returns-clause-number
returns-clause-number c = number_read 64 (λ text read. ExplainsUnsignedError 10 text read) (λ text read. HasUnsignedDigitsIfOk text read)
    (found_of c.args.given.now) c.args.id.now c.get_one.result c.get_one.ensures.none c.get_one.ensures.value

pub returns-clause-none : goal.returns-clause-none
returns-clause-none c = no_number_read 64 (λ text read. ExplainsUnsignedError 10 text read) (λ text read. HasUnsignedDigitsIfOk text read)
    (found_of c.args.given.now) c.args.id.now c.get_one.result c.get_one.ensures.value
