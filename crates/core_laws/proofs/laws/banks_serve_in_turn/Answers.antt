use Rattle.core_laws.proofs.EveryRun.{banks_serve}
use Rattle.core_laws.proofs.laws.banks_serve_in_turn.Goals as goal

pub returns : goal.returns
returns c = banks_serve
