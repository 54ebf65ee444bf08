use Rattle.home_bank.proofs.RequestWords.{acceptable}
use Rattle.home_bank.proofs.laws.request_flits_are_acceptable.Goals as goal

pub returns : goal.returns
returns c = acceptable
