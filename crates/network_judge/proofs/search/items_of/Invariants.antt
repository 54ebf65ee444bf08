use Rattle.std.proofs.Common.{◌≡◌, ◌++◌, drop}
use Rattle.network_judge.specs.Spans.{span_fills}
use Rattle.network_judge.proofs.search.items_of.Given as goal

-- what was added, and what is left to add
abbrev pub invariant-loop-place : goal.invariant-loop-place
invariant-loop-place g l = l.items.items ++ span_fills (drop l.place l.spans) ≡ span_fills l.spans
