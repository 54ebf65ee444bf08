use Rattle.std.proofs.Common.{◌≡◌}
use Rattle.network_text.specs.Lines.{first_lines}
use Rattle.network_run.specs.Written.{move_line_at}
use Rattle.network_run.proofs.writing.moves_text.Given as goal

abbrev pub invariant-loop-k : goal.invariant-loop-k
invariant-loop-k g l = l.text.items ≡ first_lines (move_line_at l.moves) l.k
