use Rattle.std.proofs.Common.{◌≡◌, ◌+◌, ◌≤◌, ◌<◌, ℕ, length, drop}
use Rattle.std.specs.Prelude.{slice_index}
use Rattle.model_text.specs.Traces.{place_in}
use Rattle.model_text.proofs.placing.places_in.Given as goal

abbrev pub decreases-back : goal.decreases-back
decreases-back g l = l.place

-- the first places in what is left behind
abbrev pub invariant-back : goal.invariant-back
invariant-back g l = record {
  sized : length l.places.items ≡ l.count;
  low : l.place ≤ length l.list;
  each : (x : ℕ) → x < l.count → slice_index l.places.items x ≡ l.place + place_in (drop l.place l.list) x;
}
