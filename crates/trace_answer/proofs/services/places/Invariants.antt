use Rattle.std.proofs.Common.{◌≡◌, ◌<◌, ℕ, map, take, length}
use Rattle.std.specs.Prelude.{count_by, slice_index_or}
use Rattle.std.specs.List.{range_with_len}
use Rattle.trace_answer.specs.Services.{is_on_bank, service_place}
use Rattle.trace_answer.proofs.services.places.Given as goal

-- the places so far, and how many operations each bank has
abbrev pub invariant-loop-i : goal.invariant-loop-i
invariant-loop-i g l = record {
  places : l.places.items ≡ map (service_place l.tiles l.order) (range_with_len 0 l.i);
  size : length l.counts.items ≡ l.tiles;
  counts : (b : ℕ) → b < l.tiles → slice_index_or l.counts.items b 0 ≡ count_by (is_on_bank l.tiles b) (take l.i l.order);
}
