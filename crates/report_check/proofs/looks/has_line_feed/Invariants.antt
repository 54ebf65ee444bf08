use Rattle.std.proofs.Common.{◌≡◌, length}
use Rattle.report_check.specs.Broken.{has_line_feed}
use Rattle.report_check.proofs.looks.has_line_feed.Given as goal

abbrev pub decreases-loop-rest : goal.decreases-loop-rest
decreases-loop-rest l = length l.rest

abbrev pub invariant-loop-rest : goal.invariant-loop-rest
invariant-loop-rest l = has_line_feed l.text ≡ has_line_feed l.rest
