use Rattle.std.proofs.Common.{ℕ, ◌<◌}
use Rattle.model_text.specs.Traces.{IsOpenedAt}
use Rattle.model_text.proofs.opened.are_opened.Given as goal

-- the writes so far are opening stores or stand behind a write of their word
abbrev pub invariant-loop-p : goal.invariant-loop-p
invariant-loop-p l = record {
  opened : (p : ℕ) → p < l.p → IsOpenedAt l.openings l.operations l.writes p;
}
