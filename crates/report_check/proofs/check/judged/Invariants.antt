use Rattle.std.proofs.Common.{◌+◌, ◌≤◌, length}
use Rattle.report_check.proofs.Progress.{Progress}
use Rattle.report_check.proofs.check.judged.Given as goal

-- the lines so far stand
abbrev pub invariant-loop-line : goal.invariant-loop-line
invariant-loop-line g l = record {
  progress : Progress l.text l.rest l.number l.checker;
  bound : l.number + length l.rest ≤ length l.text + 1;
}

abbrev pub decreases-loop-line : goal.decreases-loop-line
decreases-loop-line g l = length l.rest
