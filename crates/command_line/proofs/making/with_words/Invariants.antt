use Rattle.std.proofs.Common.{take}
use Rattle.std.specs.Prelude.{fold}
use Rattle.clap.specs.Words.{App}
use Rattle.command_line.specs.Making.{IsCommand, with_code_word}
use Rattle.command_line.proofs.making.with_words.Given as goal

abbrev pub invariant-loop-word : goal.invariant-loop-word
invariant-loop-word l = (app : App) → IsCommand app l.fn.command
    → IsCommand (fold with_code_word app (take l.word-index l.words)) l.command
