use Rattle.std.proofs.lemmas.Result.{on_ok_weaker}
use Rattle.trace_answer.proofs.Notes.{any_and_some}
use Rattle.trace_answer.proofs.noted.FoundWords.note_each.Goals as goal

pub returns : goal.returns
returns g c = on_ok_weaker _ (any_and_some c.args.self.now c.note_any.new.self c.note_some.new.self c.args.address c.in_ok-note_any.ensures) c.note_some.ensures
