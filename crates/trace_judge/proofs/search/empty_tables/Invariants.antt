use Rattle.std.proofs.Common.{◌≡◌, ℕ, [], length}
use Rattle.trace_judge.specs.Sets.{lists_of}
use Rattle.trace_judge.proofs.search.empty_tables.Given as goal

abbrev pub invariant-loop : goal.invariant-loop
invariant-loop g l = record {
  sized : length l.tables.items ≡ l.counter;
  empty : (w : ℕ) → lists_of l.tables.items w ≡ [];
}
