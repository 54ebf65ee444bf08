use Rattle.std.proofs.Common.{refl, sym, subst}
use Rattle.std.proofs.lemmas.Result.{on_ok_weaker}
use Rattle.trace_answer.specs.Noted.{AddsNotesOf}
use Rattle.trace_answer.proofs.Notes.{notes_of_kept}
use Rattle.trace_answer.proofs.closed.note_kept.Goals as goal

pub returns : goal.returns
returns g c = on_ok_weaker _
    (λ added. notes_of_kept c.args.issued.now c.args.kept.now c.args.k c.in-Some.first c.args.found.now c.note.new.self (sym c.in-Some.ensures)
    (c.if-not-is_kept.ensures.yes refl)
    (subst (λ z. AddsNotesOf c.args.found.now c.note.new.self c.in-Some.first.operation.address z) c.found_of.ensures added))
    c.note.ensures
