use Rattle.std.proofs.Common.{◌≡◌, ◌<◌, ℕ, [], ◌∷◌, length, get_or}
use Rattle.trace_watch.specs.Follows.{states_of}
use Rattle.trace_watch.proofs.watch.first_words.Given as goal

abbrev pub invariant-loop-i : goal.invariant-loop-i
invariant-loop-i g l = record {
  sized : length l.words.items ≡ l.i;
  first : (w : ℕ) → w < l.i → states_of l.words.items w ≡ record { word = get_or l.opening w 0; effects = []; seen = [] } ∷ [];
}
