use Rattle.std.proofs.Common.{◌∙◌, ap, sym, arith, slice_get, List, ℕ}
use Rattle.trace_text.specs.IssueNumbers.{numbers_of}
use Rattle.trace_text.proofs.NumberLists.{numbers_there}
use Rattle.trace_text.proofs.issue_numbers.IssueNumbers.number.Goals as goal

pub returns : goal.returns
returns g c =
    c.number_at.ensures
    ∙ (ap (λ ns. slice_get ns c.args.index) c.deref.ensures.value
    ∙ (ap (λ ns. slice_get ns c.args.index)
    (sym (numbers_there c.self.inside.lists.items c.args.p c.index.result.now (omega (arith, c.self.invariant)) c.index.ensures))
    ∙ ap (λ (ns : List (List ℕ)). slice_get (numbers_of ns c.args.p) c.args.index) c.self.view_is))
