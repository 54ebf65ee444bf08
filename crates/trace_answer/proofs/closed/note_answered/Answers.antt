use Rattle.std.proofs.lemmas.Result.{on_ok_weaker}
use Rattle.trace_answer.proofs.Holding.{answer_noted, issue_noted}
use Rattle.trace_answer.proofs.closed.note_answered.Goals as goal

pub returns-in-Issue : goal.returns-in-Issue
returns-in-Issue g c = λ events n i at holds.
    issue_noted c.args.issued.now events c.args.kept.now n i c.in-Issue.field-0 c.args.event c.args.found.now c.in-Issue.is at holds

pub returns-in-Answer : goal.returns-in-Answer
returns-in-Answer g c = λ events n i at holds. on_ok_weaker _
    (λ added. answer_noted c.args.issued.now events c.args.kept.now n i c.in-Answer.id c.in-Answer.field-1 c.args.event c.args.found.now c.note_kept.new.found c.in-Answer.is at added holds)
    c.note_kept.ensures
