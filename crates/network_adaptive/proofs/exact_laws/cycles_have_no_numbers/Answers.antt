use Rattle.network_adaptive.proofs.Exactly.{no_numbers}
use Rattle.network_adaptive.proofs.exact_laws.cycles_have_no_numbers.Goals as goal

pub returns : goal.returns
returns c = no_numbers
