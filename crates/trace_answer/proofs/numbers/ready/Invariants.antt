use Rattle.std.proofs.Common.{◌≡◌, ◌≤◌, ◌<◌, ◌-◌, ℕ, length, Some, slice_get}
use Rattle.trace_answer.proofs.numbers.ready.Given as goal

-- those below wait for no more, and those from the upper end on for more
abbrev pub invariant-loop-low : goal.invariant-loop-low
invariant-loop-low l = record {
  order : l.low ≤ l.high;
  within : l.high ≤ length l.waits;
  under : (k w : ℕ) → k < l.low → slice_get l.waits k ≡ Some w → w ≤ l.at;
  over : (k w : ℕ) → l.high ≤ k → slice_get l.waits k ≡ Some w → l.at < w;
}

abbrev pub decreases-loop-low : goal.decreases-loop-low
decreases-loop-low l = l.high - l.low
