use Rattle.machine_record.proofs.Lines.{line_back}
use Rattle.machine_record.proofs.laws.rows_are_read_back.Goals as goal

pub returns : goal.returns
returns c = line_back
