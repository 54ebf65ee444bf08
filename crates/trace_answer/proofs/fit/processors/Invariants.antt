use Rattle.std.proofs.Common.{◌≡◌, ◌≤◌, take}
use Rattle.trace_answer.specs.Fitting.{AreFit, processors_of}
use Rattle.trace_answer.proofs.fit.processors.Given as goal

-- the operations so far are within the limits
abbrev pub invariant-loop-i : goal.invariant-loop-i
invariant-loop-i g l = record {
  count : l.count ≡ processors_of (take l.i l.issued);
  low : l.count ≤ 64;
  fit : AreFit (take l.i l.issued);
}
