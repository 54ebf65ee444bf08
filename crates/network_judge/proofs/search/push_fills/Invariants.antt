use Rattle.std.proofs.Common.{◌≡◌, ◌-◌, ◌++◌}
use Rattle.network_judge.specs.Spans.{fills_on}
use Rattle.network_judge.proofs.search.push_fills.Given as goal

-- what was added, and what is left to add
abbrev pub invariant-loop-step : goal.invariant-loop-step
invariant-loop-step g l = l.items.items ++ fills_on l.span l.step (l.span.end - l.step)
    ≡ l.initial.items.items ++ fills_on l.span l.span.start (l.span.end - l.span.start)
