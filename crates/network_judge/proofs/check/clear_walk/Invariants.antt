use Rattle.std.proofs.Common.{◌≡◌, ◌≢◌, ℕ, ◌<◌, false, length}
use Rattle.network_judge.specs.Table.{table_of}
use Rattle.network_judge.specs.Ways.{place}
use Rattle.network_judge.specs.Marks.{is_marked_at}
use Rattle.network_judge.proofs.check.clear_walk.Given as goal

-- so far the walk went over channels that have marks, none of them set, and not past its end
abbrev pub invariant-loop-step : goal.invariant-loop-step
invariant-loop-step l = record {
  here : l.at ≡ place (table_of l.kinds l.joins l.choices) l.item.to l.item.from l.step;
  inside : (k : ℕ) → k < l.step → place (table_of l.kinds l.joins l.choices) l.item.to l.item.from k < length l.marks;
  clear : (k : ℕ) → k < l.step → is_marked_at l.marks (place (table_of l.kinds l.joins l.choices) l.item.to l.item.from k) ≡ false;
  goes_on : (k : ℕ) → k < l.step → place (table_of l.kinds l.joins l.choices) l.item.to l.item.from k ≢ l.item.to;
}
