use Rattle.network_judge.proofs.Judged.{is_judged}
use Rattle.network_judge.proofs.laws.each_table_is_judged.Goals as goal

pub returns : goal.returns
returns c = is_judged
