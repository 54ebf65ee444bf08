use Rattle.machine_record.proofs.ReadBack.{bytes_read_back}
use Rattle.machine_record.proofs.laws.bytes_are_read_back.Goals as goal

pub returns : goal.returns
returns c = bytes_read_back
