use Rattle.network_machine.specs.Pairs.{cells_of, NoPairs}
use Rattle.network_machine.proofs.pairs.empty_rows.Given as goal

-- no mark so far
abbrev pub invariant-loop-x : goal.invariant-loop-x
invariant-loop-x g l = NoPairs (cells_of l.rows.items)
