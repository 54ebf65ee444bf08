use Rattle.std.proofs.Common.{◌≡◌, ◌≤◌, ◌++◌, drop}
use Rattle.trace_answer.specs.Numbers.{waits_from, waits_of, issues_of}
use Rattle.trace_answer.proofs.numbers.waits_of.Given as goal

-- the waits so far, and those from there on
abbrev pub invariant-loop-i : goal.invariant-loop-i
invariant-loop-i g l = record {
  so_far : l.waits.items ++ waits_from l.least (issues_of l.times (drop l.i l.order)) ≡ waits_of l.times l.order;
  low : l.least ≤ 196609;
}
