use Rattle.std.proofs.Common.{◌++◌, ◌∙◌, ap}
use Rattle.std.specs.Option.{option_to_list}
use Rattle.report_lines.specs.Contents.{word_lines_from}
use Rattle.report_lines.proofs.Pieces.{each_next, words_are}
use Rattle.report_lines.proofs.sections.push_words.Goals as goal

pub loop-address-preserved : goal.loop-address-preserved
loop-address-preserved g c =
    each_next word_lines_from words_are c.loop-address.lines.items _ _ (g.S.Shows.contents c.args.shown.now).last c.loop-address.address
    (c.in_ok-push_word.ensures ∙ ap (λ o. c.loop-address.lines.items ++ word_lines_from c.loop-address.address (option_to_list o)) c.word.ensures)
    c.loop-address.invariant
