-- The line of an option with a default is written in two parts.
use Rattle.std.proofs.Common.{ap, refl, sym}
use Rattle.std.proofs.lemmas.Grind.{put_two}
use Rattle.command_line.specs.declared.words.CommandWord.{CommandWord}
use Rattle.command_line.specs.Printed.{word_text}
use Rattle.command_line.specs.TableRows.{taken_word}
use Rattle.command_line.proofs.words.CommandWordDisplay.fmt.Goals as goal

pub returns-in_ok-put_option-in-Usual-clause-writes : goal.returns-in_ok-put_option-in-Usual-clause-writes
returns-in_ok-put_option-in-Usual-clause-writes g c = λ plain ok.
    let first = c.in_ok-put_option-in-Usual.ensures plain refl in
    put_two _ _ _ _ _ _ _ first (c.put_usual.ensures first.plain ok)
    (ap (λ (w : CommandWord). word_text (taken_word w)) (sym c.in-Usual.is))
