use Rattle.std.proofs.Common.{◌≡◌, ◌+◌, map}
use Rattle.std.specs.List.{range_with_len}
use Rattle.model_text.specs.Values.{word_of_writes}
use Rattle.model_text.proofs.values.words_left.Given as goal

-- the words so far
abbrev pub invariant-loop-i : goal.invariant-loop-i
invariant-loop-i g l = record {
  word : l.word ≡ word_of_writes l.steps l.writes l.i;
  words : l.words.items ≡ map (word_of_writes l.steps l.writes) (range_with_len 0 (l.i + 1));
}
