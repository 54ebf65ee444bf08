use Rattle.std.proofs.Common.{refl}
use Rattle.trace_answer.proofs.Notes.{word_added}
use Rattle.trace_answer.proofs.noted.FoundWords.note_word.Goals as goal

pub returns : goal.returns
returns g c = word_added c.args.self.now _ c.args.address c.args.word refl refl c.in_ok-insert.ensures.updates.0 c.in_ok-insert.ensures.updates.1
