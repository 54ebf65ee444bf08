use Rattle.std.proofs.Common.{◌≡◌, ◌++◌}
use Rattle.network_text.specs.Lines.{first_lines}
use Rattle.network_answer.specs.Routing.{spaced_number}
use Rattle.network_answer.proofs.judgement.put_spaced.Given as goal

abbrev pub invariant-loop-k : goal.invariant-loop-k
invariant-loop-k g l = l.out.items ≡ l.fn.out.items ++ first_lines (spaced_number l.over) l.k
