use Rattle.std.proofs.Common.{◌≡◌, ℕ, ◌+◌, ◌<◌, length}
use Rattle.std.specs.Prelude.{slice_index}
use Rattle.rising.specs.Search.{node_mark, finish_height}
use Rattle.rising.proofs.search.numbers_of.Given as goal

-- the numbers so far
abbrev pub invariant-loop-x : goal.invariant-loop-x
invariant-loop-x g l = record {
  size : length l.numbers.items ≡ l.x;
  each : (k : ℕ) → k < l.x → slice_index l.numbers.items k + finish_height (node_mark l.marks k) + 1 ≡ length l.marks;
}
