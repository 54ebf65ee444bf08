use Rattle.std.proofs.Common.{◌≡◌, Some, sym, ap, ◌∙◌}
use Rattle.std.specs.Prelude.{slice_get}
use Rattle.trace_text.specs.IssueNumbers.{numbers_of}
use Rattle.trace_text.specs.Views.{trace_so_far}
use Rattle.trace_text.proofs.Answered.{answer_reaches}
use Rattle.trace_text.proofs.reading.Reading.answer_of_index.Goals as goal

pub returns : goal.returns
returns g c =
    let number : slice_get (numbers_of (trace_so_far c.args.self.now).numbers c.args.p) c.args.index ≡ Some c.in-Some.number =
    sym c.number.ensures ∙ c.in-Some.is in
    let there : slice_get (trace_so_far c.args.self.now).issued c.in-Some.number ≡ Some c.in-Some-issued_at.issued =
    ap (λ is. slice_get is c.in-Some.number) (sym c.deref.ensures.value) ∙ (sym c.issued_at.ensures ∙ c.in-Some-issued_at.is) in
    rw (answer_reaches (trace_so_far c.args.self.now) c.args.line c.args.p c.args.index c.in-Some.number c.in-Some-issued_at.issued c.args.told number there)
    c.add_answer.ensures
