use Rattle.std.proofs.Common.{◌≡◌, ◌-◌}
use Rattle.report_check.specs.Lists.{first_from}
use Rattle.report_check.specs.Broken.{word_left, left_out}
use Rattle.report_check.proofs.checker.Checker.left_out.Given as goal

abbrev pub invariant-loop-address : goal.invariant-loop-address
invariant-loop-address g l =
    first_from (word_left l.self.memory.items) l.address (l.end - l.address) ≡ left_out l.self.memory.items l.self.next_word l.end
