-- The command gains the words one after the other.
use Rattle.std.specs.Prelude.{List, fold}
use Rattle.std.proofs.Common.{subst}
use Rattle.std.proofs.lemmas.List.{take_all}
use Rattle.command_line.specs.declared.words.CommandWord.{CommandWord}
use Rattle.command_line.specs.Making.{IsCommand, with_code_word}
use Rattle.command_line.proofs.Made.{gains_word}
use Rattle.command_line.proofs.making.with_words.Goals as goal

pub loop-word-preserved : goal.loop-word-preserved
loop-word-preserved c = λ app is.
    gains_word app c.args.words.now c.loop-word.word-index _ c.loop-word.command c.in_ok-command.command c.argument.result
    c.loop-word-test.true (c.loop-word.invariant app is) c.argument.ensures.rule c.argument.ensures.local c.in_ok-command.ensures

pub returns : goal.returns
returns c = λ app is.
    subst (λ (ws : List CommandWord). IsCommand (fold with_code_word app ws) c.loop-word.command)
    (take_all c.loop-word.word-index c.args.words.now c.loop-word-test.false) (c.loop-word.invariant app is)
