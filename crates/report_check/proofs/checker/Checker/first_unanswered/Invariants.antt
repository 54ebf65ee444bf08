use Rattle.std.proofs.Common.{◌≡◌, ◌-◌}
use Rattle.report_check.specs.Seen.{Seen}
use Rattle.report_check.specs.Lists.{first_from}
use Rattle.report_check.specs.Broken.{unanswered_at, first_unanswered}
use Rattle.report_check.specs.Shows.{KeepsSeen}
use Rattle.report_check.proofs.checker.Checker.first_unanswered.Given as goal

abbrev pub invariant-loop-bank : goal.invariant-loop-bank
invariant-loop-bank g l =
    (s : Seen) → KeepsSeen s l.self → first_from (unanswered_at s) l.bank (l.self.tiles - l.bank) ≡ first_unanswered s l.complete
