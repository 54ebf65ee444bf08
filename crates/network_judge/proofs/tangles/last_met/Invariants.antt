use Rattle.std.proofs.Common.{◌≡◌}
use Rattle.network_judge.specs.Table.{table_of}
use Rattle.network_judge.specs.Ways.{place}
use Rattle.network_judge.proofs.Owners.{MetSoFar}
use Rattle.network_judge.proofs.tangles.last_met.Given as goal

-- the last channel with an owner so far
abbrev pub invariant-loop-step : goal.invariant-loop-step
invariant-loop-step l = record {
  here : l.at ≡ place (table_of l.kinds l.joins l.choices) l.span.to l.span.from l.step;
  met : MetSoFar (table_of l.kinds l.joins l.choices) l.owners l.span l.step l.found;
}
