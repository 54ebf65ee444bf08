use Rattle.std.proofs.Common.{◌≡◌, ◌+◌, ◌≤◌, length}
use Rattle.std.specs.Str.Lines.{lines}
use Rattle.network_run.specs.Moved.{HasLines, run_from, run_or_why, run_spec}
use Rattle.network_run.proofs.reading.read_run.Given as goal

abbrev pub decreases-loop-line : goal.decreases-loop-line
decreases-loop-line g l = length l.rest

abbrev pub invariant-loop-line : goal.invariant-loop-line
invariant-loop-line g l = record {
  count : l.number + length l.rest ≤ length l.text + 1;
  positive : 1 ≤ l.number;
  paired : HasLines (run_spec l.run);
  reads : run_from (run_spec l.run) l.number (lines l.rest) ≡ run_or_why (lines l.text);
}
