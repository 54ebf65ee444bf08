use Rattle.std.proofs.Common.{◌≡◌, ◌-◌}
use Rattle.report_check.specs.Seen.{Seen}
use Rattle.report_check.specs.Lists.{first_from}
use Rattle.report_check.specs.Broken.{place_unanswered, unanswered_at}
use Rattle.report_check.specs.Shows.{KeepsSeen}
use Rattle.report_check.proofs.checker.Checker.unanswered_at.Given as goal

abbrev pub invariant-loop-place : goal.invariant-loop-place
invariant-loop-place g l =
    (s : Seen) → KeepsSeen s l.self → first_from (place_unanswered s l.bank) l.place (l.count - l.place) ≡ unanswered_at s l.bank
