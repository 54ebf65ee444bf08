use Rattle.std.proofs.Common.{◌++◌, ◌∙◌, ap}
use Rattle.std.specs.Prelude.{codes}
use Rattle.weak_models.specs.Notes.{is_conditional}
use Rattle.model_answer.specs.PartText.{word_if}
use Rattle.model_answer.proofs.Parting.{five_more}
use Rattle.model_answer.proofs.part_words.put_annotation.Goals as goal

pub returns : goal.returns
returns g c =
    let note = c.args.note in
    five_more c.args.text.now.items (word_if c.args.reserved (codes " reserved")) (word_if (is_conditional note.pair) (codes " conditional"))
    (word_if note.acquire (codes " acquire")) (word_if note.release (codes " release")) (word_if note.rcpc (codes " rcpc"))
    c.put_if.new.text.items c.put_if-2.new.text.items c.put_if-3.new.text.items c.put_if-4.new.text.items c.put_if-5.new.text.items
    c.in_ok-put_if.ensures (c.in_ok-put_if-2.ensures ∙ ap (λ w. c.put_if.new.text.items ++ word_if w (codes " conditional")) c.is_conditional.ensures)
    c.in_ok-put_if-3.ensures c.in_ok-put_if-4.ensures c.in_ok-put_if-5.ensures
