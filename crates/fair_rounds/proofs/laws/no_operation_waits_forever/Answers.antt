use Rattle.fair_rounds.proofs.Waits.{no_operation_waits}
use Rattle.fair_rounds.proofs.laws.no_operation_waits_forever.Goals as goal

pub returns : goal.returns
returns c = no_operation_waits
