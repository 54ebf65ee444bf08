use Rattle.std.proofs.Common.{ℕ, ◌<◌}
use Rattle.network_machine.specs.Outputs.{LacksNoAnswer}
use Rattle.network_machine.proofs.hindrance.lacking_answer.Given as goal

-- none so far
abbrev pub invariant-loop-place : goal.invariant-loop-place
invariant-loop-place l = record {
  clear : (p : ℕ) → p < l.place → LacksNoAnswer l.replies l.channels l.x p;
}
