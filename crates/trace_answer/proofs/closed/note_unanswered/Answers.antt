use Rattle.std.proofs.Common.{refl}
use Rattle.std.proofs.lemmas.Result.{on_ok_weaker}
use Rattle.trace_answer.proofs.Holding.{unanswered_noted, unanswered_skipped}
use Rattle.trace_answer.proofs.closed.note_unanswered.Goals as goal

pub returns-then-is_unanswered : goal.returns-then-is_unanswered
returns-then-is_unanswered g c = λ events i holds.
    let first = c.if-is_unanswered.ensures.yes refl in
    on_ok_weaker _
    (λ added. unanswered_noted c.args.issued.now events c.args.kept.now c.args.k i first.0 c.args.found.now c.note_kept.new.found first.1 first.2 added holds)
    c.note_kept.ensures

pub returns : goal.returns
returns g c = λ events i holds. unanswered_skipped c.args.issued.now events c.args.kept.now c.args.k i c.args.found.now (c.if-is_unanswered.ensures.no refl) holds
