use Rattle.std.proofs.Common.{◌≡◌, ℕ, ◌<◌, length}
use Rattle.std.specs.Prelude.{slice_index}
use Rattle.rising.specs.Search.{path_look}
use Rattle.rising.proofs.search.columns_of.Given as goal

-- the columns so far
abbrev pub invariant-loop-k : goal.invariant-loop-k
invariant-loop-k g l = record {
  size : length l.columns.items ≡ l.k;
  each : (m : ℕ) → m < l.k → slice_index l.columns.items m ≡ (path_look l.looks m).column;
}
