use Rattle.report_check.proofs.Answered.{answers_entries}
use Rattle.report_check.proofs.laws.answers_name_entries.Goals as goal

pub returns : goal.returns
returns c = answers_entries
