use Rattle.std.proofs.Common.{◌∙◌, arith}
use Rattle.trace_table.proofs.Literals.{digits_more}
use Rattle.trace_table.proofs.literal.digits_number.Goals as goal

pub returns : goal.returns
returns c = c.digits_taken.ensures.value ∙ digits_more c.args.radix 0 c.args.digits.now (omega arith) (omega arith)
