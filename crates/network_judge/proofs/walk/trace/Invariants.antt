use Rattle.std.proofs.Common.{◌≡◌, ◌+◌}
use Rattle.network_judge.specs.Table.{table_of}
use Rattle.network_judge.specs.Ways.{place, IsUnderWay}
use Rattle.network_judge.specs.Marks.{IsTraced}
use Rattle.network_judge.proofs.walk.trace.Given as goal

-- the walk has come to this place by hops, and what it passed is marked
abbrev pub invariant-loop-step : goal.invariant-loop-step
invariant-loop-step l = record {
  here : l.at ≡ place (table_of l.kinds l.joins l.choices) l.pair.to l.pair.from l.step;
  under_way : IsUnderWay (table_of l.kinds l.joins l.choices) l.pair.from l.pair.to (l.step + 1);
  traced : IsTraced (table_of l.kinds l.joins l.choices) l.pair.from l.pair.to l.step l.initial.used l.used;
}
