use Rattle.std.proofs.Common.{ℕ, ◌<◌}
use Rattle.model_values.specs.Placed.{KeepsSource}
use Rattle.model_values.proofs.accept.keep_sources.Given as goal

-- the operations so far do
abbrev pub invariant-loop-x : goal.invariant-loop-x
invariant-loop-x l = record {
  keeps : (x : ℕ) → x < l.x → KeepsSource l.question.operations.now l.question.sources.now l.placed l.writes x;
}
