use Rattle.std.proofs.Common.{◌<◌, ◌∙◌, length, arith}
use Rattle.std.proofs.lemmas.List.{length-set}
use Rattle.lexer.specs.Words.{words_of}
use Rattle.lexer.proofs.WordCuts.{one_more_word}
use Rattle.model_text.proofs.LongLines.{ten_words, last_words}
use Rattle.model_text.proofs.words.log_words.Goals as goal
use Rattle.model_text.proofs.words.log_words.Goals.{else-loop-count-test, then-loop-count-test+in_default}

pub loop-count-preserved : goal.loop-count-preserved
loop-count-preserved c =
    let low : c.loop-count.count < length c.loop-count.words = omega arith in
    record {
      few = omega arith;
      ten = length-set c.loop-count.words c.loop-count.count c.in-Some.word ∙ c.loop-count.invariant.ten;
      words = one_more_word c.loop-count.words c.loop-count.count c.in-Some.word (words_of c.loop-count.rest.now)
          (words_of c.in-Some.after.now) (words_of c.args.line.now) low c.in-Some.ensures.some c.loop-count.invariant.words;
    }

pub returns-clause-words : goal.returns-clause-words
returns-clause-words c =
    let more = words_of c.loop-count.rest.now in
    let all = words_of c.args.line.now in
    elim c.loop-count-test.branch [
      | else-loop-count-test w ↦
          ten_words c.loop-count.words c.loop-count.count more all c.loop-count.invariant.ten (omega arith)
          c.loop-count.invariant.words
      | then-loop-count-test+in_default w ↦
          last_words c.loop-count.words c.loop-count.count more all c.loop-count.invariant.ten c.loop-count.invariant.few
          w.in_default.ensures.none c.loop-count.invariant.words
    ]
