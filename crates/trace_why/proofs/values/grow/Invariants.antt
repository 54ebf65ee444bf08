use Rattle.trace_why.specs.Values.{AreApartAnd, IsReachedIn}
use Rattle.trace_why.proofs.Growing.{Growing}
use Rattle.trace_why.proofs.values.grow.Given as goal

abbrev pub invariant-loop-value : goal.invariant-loop-value
invariant-loop-value g l = record {
  growing : Growing l.calls l.value-items l.value-index l.initial.values.items l.values.items;
  only : AreApartAnd (IsReachedIn l.initial.values.items l.calls 1) l.values.items;
}
