use Rattle.std.proofs.Common.{◌≡◌, ℕ, ◌<◌, ◌≤◌, length}
use Rattle.std.specs.Prelude.{slice_index}
use Rattle.model_values.proofs.known.forget.Given as goal

-- the entries so far are forgotten, and the others are as before
abbrev pub invariant-loop-k : goal.invariant-loop-k
invariant-loop-k l = record {
  size : length l.table ≡ length l.fn.table;
  kept : (j : ℕ) → j < l.k → slice_index l.fn.table j ≤ l.level → slice_index l.table j ≡ slice_index l.fn.table j;
  gone : (j : ℕ) → j < l.k → l.level < slice_index l.fn.table j → slice_index l.table j ≡ 18446744073709551615;
  rest : (j : ℕ) → l.k ≤ j → slice_index l.table j ≡ slice_index l.fn.table j;
}
