use Rattle.std.proofs.Common.{◌≡◌, ◌++◌}
use Rattle.network_text.specs.Lines.{first_lines}
use Rattle.network_answer.specs.OneFlit.{spaced_back}
use Rattle.network_answer.proofs.one_flit.put_spaced_back.Given as goal

abbrev pub invariant-loop-k : goal.invariant-loop-k
invariant-loop-k g l = l.out.items ≡ l.fn.out.items ++ first_lines (spaced_back l.before) l.k
