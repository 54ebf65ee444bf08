use Rattle.std.proofs.Common.{◌≡◌, ◌-◌}
use Rattle.report_check.specs.Seen.{Seen}
use Rattle.report_check.specs.Lists.{first_from}
use Rattle.report_check.specs.Broken.{bank_unordered, unordered}
use Rattle.report_check.specs.Shows.{KeepsSeen}
use Rattle.report_check.proofs.checker.Checker.unordered.Given as goal

abbrev pub invariant-loop-bank : goal.invariant-loop-bank
invariant-loop-bank g l = (s : Seen) → KeepsSeen s l.self → first_from (bank_unordered s) l.bank (l.self.tiles - l.bank) ≡ unordered s
