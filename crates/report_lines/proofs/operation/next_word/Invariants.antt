use Rattle.std.proofs.Common.{◌≡◌, ◌<◌, ℕ, false, get_or}
use Rattle.report_lines.specs.Reading.{is_space}
use Rattle.report_lines.proofs.operation.next_word.Given as goal

abbrev pub invariant-loop-at : goal.invariant-loop-at
invariant-loop-at l = (k : ℕ) → k < l.at → is_space (get_or l.text k 0) ≡ false
