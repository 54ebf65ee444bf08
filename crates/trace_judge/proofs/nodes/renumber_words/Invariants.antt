use Rattle.std.proofs.Common.{◌≡◌, ◌<◌, ℕ, List, Bool, length}
use Rattle.trace_judge.specs.Kept.{renumbered_all, AreRanks}
use Rattle.trace_judge.specs.Sets.{lists_of}
use Rattle.trace_judge.proofs.nodes.renumber_words.Given as goal

abbrev pub invariant-loop-w : goal.invariant-loop-w
invariant-loop-w g l = record {
  sized : length l.later.items ≡ l.w;
  same : (marks : List Bool) → AreRanks l.ranks marks → (v : ℕ) → v < l.w
      → lists_of l.later.items v ≡ renumbered_all marks (lists_of l.words v);
}
