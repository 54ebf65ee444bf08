use Rattle.report_check.proofs.Verdict.{one_number, good_or_bad}
use Rattle.report_check.proofs.laws.one_verdict.Goals as goal

pub returns : goal.returns
returns c = record { one = one_number; apart = good_or_bad }
