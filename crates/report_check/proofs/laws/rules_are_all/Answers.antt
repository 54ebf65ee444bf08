use Rattle.report_check.specs.Seen.{seen_of}
use Rattle.report_check.proofs.Banked.{banked}
use Rattle.report_check.proofs.RulesKept.{line_kept}
use Rattle.report_check.proofs.Unbroken.{line_none}
use Rattle.report_check.proofs.laws.rules_are_all.Goals as goal

pub returns : goal.returns
returns c lines line stand = (line_kept (seen_of lines) line (banked lines stand), line_none (seen_of lines) line)
