use Rattle.std.proofs.Common.{◌≡◌, [], length, replicate}
use Rattle.trace_text.specs.InsideNumbers.{number_lists}
use Rattle.trace_text.proofs.issue_numbers.IssueNumbers.none.Given as goal

abbrev pub invariant-loop : goal.invariant-loop
invariant-loop g l = record {
  empty : number_lists l.lists.items ≡ replicate l.counter [];
  sized : length l.lists.items ≡ l.counter;
}
