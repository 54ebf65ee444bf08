use Rattle.std.proofs.Common.{◌≡◌, ◌<◌, ℕ, [], length, map}
use Rattle.std.specs.Prelude.{slice_index_or}
use Rattle.std.specs.Str.Lines.{lines}
use Rattle.network_names.specs.Called.{first_naming}
use Rattle.network_names.proofs.Noting.{gone_on}
use Rattle.network_names.proofs.called.lines_naming.Given as goal

abbrev pub decreases-loop-line : goal.decreases-loop-line
decreases-loop-line g l = length l.rest

abbrev pub invariant-loop-line : goal.invariant-loop-line
invariant-loop-line g l = record {
  size : length l.found.items ≡ l.room;
  each : (x : ℕ) → x < l.room
      → gone_on l.naming x (lines l.rest) (slice_index_or (map (λ w. w.now) l.found.items) x [])
      ≡ first_naming l.naming x (lines l.text);
}
