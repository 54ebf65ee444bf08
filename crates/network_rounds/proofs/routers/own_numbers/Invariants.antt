use Rattle.std.proofs.Common.{◌≡◌, ◌<◌, ℕ, length}
use Rattle.std.specs.Prelude.{slice_index}
use Rattle.network_rounds.proofs.routers.own_numbers.Given as goal

-- the numbers so far
abbrev pub invariant-loop-x : goal.invariant-loop-x
invariant-loop-x g l = record {
  size : length l.numbers.items ≡ l.x;
  own : (k : ℕ) → k < l.x → slice_index l.numbers.items k ≡ k;
}
