use Rattle.std.proofs.Common.{◌≡◌, ◌+◌, ◌≤◌, length}
use Rattle.std.specs.Str.Lines.{lines}
use Rattle.network_rounds.specs.Traffic.{HasTrafficLines, traffic_from, traffic_or_why, traffic_spec}
use Rattle.network_rounds.proofs.reading.read_traffic.Given as goal

abbrev pub decreases-loop-line : goal.decreases-loop-line
decreases-loop-line g l = length l.rest

abbrev pub invariant-loop-line : goal.invariant-loop-line
invariant-loop-line g l = record {
  count : l.number + length l.rest ≤ length l.text + 1;
  positive : 1 ≤ l.number;
  paired : HasTrafficLines (traffic_spec l.traffic);
  reads : traffic_from (traffic_spec l.traffic) l.number (lines l.rest) ≡ traffic_or_why (lines l.text);
}
