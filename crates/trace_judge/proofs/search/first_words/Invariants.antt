use Rattle.std.proofs.Common.{◌≡◌, ◌<◌, ℕ, [], ◌∷◌, length, get_or}
use Rattle.trace_laws.specs.Searches.{first_branch}
use Rattle.trace_judge.specs.Sets.{lists_of}
use Rattle.trace_judge.proofs.search.first_words.Given as goal

abbrev pub invariant-loop-word : goal.invariant-loop-word
invariant-loop-word g l = record {
  sized : length l.words.items ≡ l.word-index;
  first : (w : ℕ) → w < l.word-index → lists_of l.words.items w ≡ first_branch (get_or l.opening w 0) ∷ [];
}
