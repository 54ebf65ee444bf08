-- The images of two items.
use Rattle.std.proofs.Common.{arith}
use Rattle.command_line.proofs.Rows.{two_images}
use Rattle.command_line.proofs.values.pair.Goals as goal

pub returns-in-len2-clause-words : goal.returns-in-len2-clause-words
returns-in-len2-clause-words c =
    two_images (λ v. v.now) c.args.words.now _ (omega (arith, c.in-len2.len_at_least)) (omega (arith, c.in-len2.len_below))
