use Rattle.std.proofs.Common.{◌≡◌, ◌-◌, ◌≤◌, ◌++◌, take, length, map}
use Rattle.lexer.specs.Words.{words_of}
use Rattle.model_text.proofs.words.log_words.Given as goal

abbrev pub invariant-loop-count : goal.invariant-loop-count
invariant-loop-count l = record {
  few : l.count ≤ 10;
  ten : length l.words ≡ 10;
  words : map (λ word. word.now) (take l.count l.words) ++ words_of l.rest ≡ words_of l.line;
}

abbrev pub decreases-loop-count : goal.decreases-loop-count
decreases-loop-count l = 10 - l.count
