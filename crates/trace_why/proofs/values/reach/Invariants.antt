use Rattle.std.proofs.Common.{ℕ}
use Rattle.std.specs.Prelude.{Contains}
use Rattle.trace_why.specs.Values.{AreApartAnd, IsReachedIn}
use Rattle.trace_why.proofs.values.reach.Given as goal

abbrev pub invariant-loop : goal.invariant-loop
invariant-loop g l = record {
  has : (v : ℕ) → IsReachedIn l.initial.values.items l.calls l.counter v → Contains l.values.items v;
  only : AreApartAnd (IsReachedIn l.initial.values.items l.calls l.counter) l.values.items;
}
