use Rattle.std.proofs.Common.{◌≡◌, ◌-◌, ◌≤◌, ◌++◌, take, length, map}
use Rattle.lexer.specs.Words.{words_of}
use Rattle.lexer.proofs.words.first_words.Given as goal

abbrev pub invariant-loop-count : goal.invariant-loop-count
invariant-loop-count l = record {
  few : l.count ≤ 7;
  seven : length l.words ≡ 7;
  words : map (λ word. word.now) (take l.count l.words) ++ words_of l.rest ≡ words_of l.line;
}

abbrev pub decreases-loop-count : goal.decreases-loop-count
decreases-loop-count l = 7 - l.count
