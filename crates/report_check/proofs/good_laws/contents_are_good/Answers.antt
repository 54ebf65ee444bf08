use Rattle.report_check.proofs.Whole.{contents_good}
use Rattle.report_check.proofs.good_laws.contents_are_good.Goals as goal

pub returns : goal.returns
returns c = contents_good
