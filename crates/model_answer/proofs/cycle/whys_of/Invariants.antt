use Rattle.std.proofs.Common.{◌≡◌, ◌<◌, ℕ, length}
use Rattle.memory_models.specs.Arcs.{IsWhy}
use Rattle.memory_models.specs.Verdict.{step_at}
use Rattle.model_answer.specs.Texts.{why_at}
use Rattle.model_answer.proofs.cycle.whys_of.Given as goal

-- the reasons so far
abbrev pub invariant-loop-k : goal.invariant-loop-k
invariant-loop-k g l = record {
  size : length l.whys.items ≡ l.k;
  each : (k : ℕ) → k < l.k → IsWhy l.rules l.trace.operations.items l.trace.writes.items (step_at l.steps k).from (step_at l.steps k).to
      (why_at l.whys.items k);
}
