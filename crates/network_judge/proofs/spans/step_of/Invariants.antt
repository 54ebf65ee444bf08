use Rattle.std.proofs.Common.{◌≡◌, ◌≢◌, ℕ, ◌<◌}
use Rattle.network_judge.specs.Table.{table_of}
use Rattle.network_judge.specs.Ways.{place}
use Rattle.network_judge.proofs.spans.step_of.Given as goal

-- so far the walk came neither to the channel nor to its end
abbrev pub invariant-loop-step : goal.invariant-loop-step
invariant-loop-step l = record {
  here : l.at ≡ place (table_of l.kinds l.joins l.choices) l.to l.from l.step;
  others : (k : ℕ) → k < l.step → place (table_of l.kinds l.joins l.choices) l.to l.from k ≢ l.x;
  goes_on : (k : ℕ) → k < l.step → place (table_of l.kinds l.joins l.choices) l.to l.from k ≢ l.to;
}
