use Rattle.std.proofs.Common.{◌+◌, ◌≤◌, length}
use Rattle.report_model.specs.Run.{run_seen}
use Rattle.report_model.proofs.Reading.{ReadTo}
use Rattle.report_model.proofs.running.read_run.Given as goal

-- the lines so far are read
abbrev pub invariant-loop-line : goal.invariant-loop-line
invariant-loop-line g l = record {
  read : ReadTo l.text l.rest (run_seen l.run);
  bound : l.run.count + length l.rest ≤ length l.text;
}

abbrev pub decreases-loop-line : goal.decreases-loop-line
decreases-loop-line g l = length l.rest
