use Rattle.std.proofs.Common.{◌≡◌, ◌++◌}
use Rattle.network_text.specs.Lines.{first_lines}
use Rattle.network_answer.specs.Answer.{link_line}
use Rattle.network_answer.proofs.verdict.put_links.Given as goal

abbrev pub invariant-loop-k : goal.invariant-loop-k
invariant-loop-k g l = l.out.items ≡ l.fn.out.items ++ first_lines (link_line l.links) l.k
