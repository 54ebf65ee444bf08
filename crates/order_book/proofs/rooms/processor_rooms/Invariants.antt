use Rattle.std.proofs.Common.{◌≡◌, ◌<◌, ◌≤◌, ℕ, length, slice_index}
use Rattle.script_lines.specs.Views.{lists_of}
use Rattle.script_lines.specs.Lines.{operation_count, script_of}
use Rattle.order_book.proofs.rooms.processor_rooms.Given as goal

-- the scripts so far have their counts, and the others 0
abbrev pub invariant-loop-processor : goal.invariant-loop-processor
invariant-loop-processor g l = record {
  size : length l.rooms ≡ 64;
  counted : (p : ℕ) → p < l.processor → slice_index l.rooms p ≡ operation_count (script_of (lists_of l.scripts) p);
  left : (p : ℕ) → l.processor ≤ p → slice_index l.rooms p ≡ 0;
}
