use Rattle.std.proofs.Common.{◌≡◌, ◌∙◌, [], ap, arith, replicate}
use Rattle.trace_text.proofs.issue_numbers.IssueNumbers.none.Goals as goal

pub returns : goal.returns
returns g c =
    let whole : c.loop.counter ≡ 4096 = omega arith in
    c.loop.invariant.empty ∙ ap (λ n. replicate n []) whole
