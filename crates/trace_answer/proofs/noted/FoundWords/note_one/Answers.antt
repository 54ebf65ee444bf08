use Rattle.std.proofs.lemmas.Result.{on_ok_weaker}
use Rattle.trace_answer.proofs.Notes.{word_and_some}
use Rattle.trace_answer.proofs.noted.FoundWords.note_one.Goals as goal

pub returns : goal.returns
returns g c = on_ok_weaker _ (word_and_some c.args.self.now c.note_word.new.self c.note_some.new.self c.args.address c.args.word c.in_ok-note_word.ensures) c.note_some.ensures
