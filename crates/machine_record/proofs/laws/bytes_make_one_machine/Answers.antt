use Rattle.machine_record.proofs.Restores.{one_restored}
use Rattle.machine_record.proofs.laws.bytes_make_one_machine.Goals as goal

pub returns : goal.returns
returns c = one_restored
