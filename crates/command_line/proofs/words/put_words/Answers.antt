-- All lines were written.
use Rattle.std.specs.Prelude.{ℕ, List}
use Rattle.std.proofs.Common.{subst}
use Rattle.std.specs.Fmt.{HasWritten}
use Rattle.command_line.specs.Printed.{word_text}
use Rattle.command_line.specs.TableRows.{taken_word}
use Rattle.command_line.proofs.Made.{all_texts}
use Rattle.command_line.proofs.words.put_words.Goals as goal

pub returns : goal.returns
returns g c = λ plain ok.
    subst (λ (t : List ℕ). HasWritten g.W.Write.write_str_gives c.args.f.now t c.loop-word.f)
    (all_texts word_text taken_word c.args.words.now c.loop-word.word-index c.loop-word-test.false) (c.loop-word.invariant plain)
