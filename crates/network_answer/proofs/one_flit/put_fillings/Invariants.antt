use Rattle.std.proofs.Common.{◌≡◌, ◌++◌, map}
use Rattle.network_text.specs.Lines.{first_lines}
use Rattle.dead_sets.specs.FillingFlags.{filling_of}
use Rattle.network_answer.specs.OneFlit.{filling_line_at}
use Rattle.network_answer.proofs.one_flit.put_fillings.Given as goal

abbrev pub invariant-loop-k : goal.invariant-loop-k
invariant-loop-k g l = l.out.items ≡ l.fn.out.items ++ first_lines (filling_line_at (map filling_of l.items)) l.k
