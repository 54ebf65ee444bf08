use Rattle.std.proofs.Common.{◌≡◌, ◌++◌}
use Rattle.network_text.specs.Lines.{first_lines}
use Rattle.network_answer.specs.OneFlit.{dead_line}
use Rattle.network_answer.proofs.one_flit.put_dead_channels.Given as goal

abbrev pub invariant-loop-x : goal.invariant-loop-x
invariant-loop-x g l = l.out.items ≡ l.fn.out.items ++ first_lines (dead_line l.flags) l.x
