use Rattle.std.proofs.Common.{◌≡◌}
use Rattle.network_judge.specs.Table.{table_of}
use Rattle.network_judge.specs.Ways.{place}
use Rattle.network_judge.proofs.Owners.{NotedTo}
use Rattle.network_judge.proofs.tangles.note.Given as goal

-- the channels of the first steps are noted
abbrev pub invariant-loop-step : goal.invariant-loop-step
invariant-loop-step l = record {
  here : l.at ≡ place (table_of l.kinds l.joins l.choices) l.span.to l.span.from l.step;
  noted : NotedTo (table_of l.kinds l.joins l.choices) l.span l.number l.step l.initial.owners l.owners;
}
