use Rattle.channel_number.proofs.Numberings.{IsBegun}
use Rattle.channel_number.proofs.number.all_numbers.Given as goal

-- the numbers of the channels so far
abbrev pub invariant-loop-index : goal.invariant-loop-index
invariant-loop-index g l = IsBegun l.torus l.numbers.items l.index
