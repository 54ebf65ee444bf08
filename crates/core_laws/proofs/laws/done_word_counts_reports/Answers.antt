use Rattle.core_laws.proofs.Reached.{reports_counted}
use Rattle.core_laws.proofs.laws.done_word_counts_reports.Goals as goal

pub returns : goal.returns
returns c = reports_counted
