use Rattle.std.proofs.Common.{◌≡◌, ◌++◌}
use Rattle.network_text.specs.Lines.{first_lines}
use Rattle.network_answer.specs.Answer.{number_line}
use Rattle.network_answer.proofs.verdict.put_numbers.Given as goal

abbrev pub invariant-loop-x : goal.invariant-loop-x
invariant-loop-x g l = l.out.items ≡ l.fn.out.items ++ first_lines (number_line l.numbers) l.x
