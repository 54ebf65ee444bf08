use Rattle.std.proofs.Common.{◌≡◌, Some, None, sym, ◌∙◌}
use Rattle.trace_judge.proofs.Ranks.{one_keeps, one_end, one_only}
use Rattle.trace_judge.proofs.nodes.mark_one.Goals as goal

pub returns-in_default-clause-end : goal.returns-in_default-clause-end
returns-in_default-clause-end c = λ i e. absurd (let n : None ≡ Some i = sym c.in_default.is ∙ e in cc)

pub returns-clause-kept : goal.returns-clause-kept
returns-clause-kept c = one_keeps c.args.marks.now c.in-Some.i

pub returns-clause-end : goal.returns-clause-end
returns-clause-end c = one_end c.args.marks.now c.args.last c.in-Some.i c.in-Some.is (c.requires c.in-Some.i c.in-Some.is)

pub returns-clause-only : goal.returns-clause-only
returns-clause-only c = one_only c.args.marks.now c.args.last c.in-Some.i c.in-Some.is
