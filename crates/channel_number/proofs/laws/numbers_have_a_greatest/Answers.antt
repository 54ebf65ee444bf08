use Rattle.std.proofs.Common.{arith}
use Rattle.channel_number.proofs.Most.{most, number_most}
use Rattle.channel_number.proofs.laws.numbers_have_a_greatest.Goals as goal

pub returns : goal.returns
returns c = record { greatest = λ s h x is t. omega (arith, most s h x is); small = number_most }
