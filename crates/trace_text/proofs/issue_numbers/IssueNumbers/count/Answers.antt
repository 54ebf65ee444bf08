use Rattle.std.proofs.Common.{◌≡◌, ◌∙◌, ap, sym, arith, length, List, ℕ}
use Rattle.trace_text.specs.IssueNumbers.{numbers_of}
use Rattle.trace_text.proofs.NumberLists.{numbers_there}
use Rattle.trace_text.proofs.issue_numbers.IssueNumbers.count.Goals as goal

pub returns : goal.returns
returns g c =
    let there : length (numbers_of c.args.self.now c.args.p) ≡ length c.index.result.now.items =
    sym (ap (λ (ns : List (List ℕ)). length (numbers_of ns c.args.p)) c.self.view_is)
    ∙ ap length (numbers_there c.self.inside.lists.items c.args.p c.index.result.now (omega (arith, c.self.invariant)) c.index.ensures) in
    omega (arith, c.len.ensures, there)
