use Rattle.machine_record.proofs.Actions.{number_back}
use Rattle.machine_record.proofs.laws.numbers_are_read_back.Goals as goal

pub returns : goal.returns
returns c = number_back
