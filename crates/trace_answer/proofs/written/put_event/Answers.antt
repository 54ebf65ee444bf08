use Rattle.std.proofs.Common.{◌++◌, ◌∙◌, List, ℕ, ap, sym, slice_get}
use Rattle.trace_answer.proofs.Behind.{on_ok}
use Rattle.trace_answer.proofs.Writing.{answer_is}
use Rattle.trace_answer.proofs.written.put_event.Goals as goal

pub returns-in-Some-issued_of : goal.returns-in-Some-issued_of
returns-in-Some-issued_of g c =
    let there = sym (sym c.in-Some-issued_of.is ∙ c.issued_of-in-Answer.ensures ∙ ap (λ z. slice_get z c.in-Answer.id) c.issued-in-Answer.ensures) in
    rw c.in-Answer.is (on_ok c.put_line-in-Some-issued_of.result
    (λ h. h ∙ ap (λ (z : List ℕ). c.args.text.now.items ++ z) (c.answer_line.ensures
    ∙ answer_is c.args.trace.now c.args.kept.now c.args.counts.now c.in-Answer.id c.count_at.result c.in-Answer.reply c.in-Some-issued_of.issued c.requires there c.count_at.ensures))
    c.put_line-in-Some-issued_of.ensures)
