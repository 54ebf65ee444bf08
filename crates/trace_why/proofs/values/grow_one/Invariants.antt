use Rattle.trace_why.specs.Values.{AreApartAnd, IsLeftOf}
use Rattle.trace_why.proofs.Growing.{GrowingOne}
use Rattle.trace_why.proofs.values.grow_one.Given as goal

abbrev pub invariant-loop-found : goal.invariant-loop-found
invariant-loop-found g l = record {
  growing : GrowingOne l.calls l.value l.found-index l.initial.values.items l.values.items;
  only : AreApartAnd (IsLeftOf l.initial.values.items l.calls l.value) l.values.items;
}
