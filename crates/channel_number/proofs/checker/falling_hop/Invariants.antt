use Rattle.std.proofs.Common.{◌≡◌, ℕ, ◌+◌, ◌-◌, ◌<◌, ◌≤◌}
use Rattle.std.specs.Prelude.{slice_index}
use Rattle.channel_number.specs.Rising.{along}
use Rattle.channel_number.proofs.checker.falling_hop.Given as goal

-- the numbers rise up to the one before this hop
abbrev pub invariant-loop-hop : goal.invariant-loop-hop
invariant-loop-hop l = record {
  low : 1 ≤ l.hop;
  before : l.before ≡ slice_index (along l.torus l.numbers l.fn.class l.src l.dst) (l.hop - 1);
  rise : (k : ℕ) → k + 1 < l.hop
      → slice_index (along l.torus l.numbers l.fn.class l.src l.dst) k < slice_index (along l.torus l.numbers l.fn.class l.src l.dst) (k + 1);
}
