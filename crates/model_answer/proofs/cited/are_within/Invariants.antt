use Rattle.std.proofs.Common.{◌<◌, ℕ}
use Rattle.state_search.specs.Parts.{IsKept}
use Rattle.model_answer.proofs.cited.are_within.Given as goal

abbrev pub invariant-loop-k : goal.invariant-loop-k
invariant-loop-k l = (j : ℕ) → j < l.k → IsKept l.part j → IsKept l.whole j
