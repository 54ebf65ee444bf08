use Rattle.core_laws.proofs.OnTheWay.{shows_operations}
use Rattle.core_laws.proofs.laws.followers_show_what_was_issued.Goals as goal

pub returns : goal.returns
returns c = shows_operations
