use Rattle.network_judge.proofs.Failing.{no_numbers}
use Rattle.network_judge.proofs.laws.cycles_have_no_numbers.Goals as goal

pub returns : goal.returns
returns c = no_numbers
