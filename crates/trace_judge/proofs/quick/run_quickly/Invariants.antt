use Rattle.trace_judge.specs.Searched.{HasSearched}
use Rattle.trace_judge.proofs.quick.run_quickly.Given as goal

abbrev pub invariant-loop-k : goal.invariant-loop-k
invariant-loop-k g l = HasSearched l.opening l.events l.events l.k l.search
