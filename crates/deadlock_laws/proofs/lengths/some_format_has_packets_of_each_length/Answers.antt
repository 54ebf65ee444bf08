use Rattle.deadlock_laws.proofs.Both.{some_format}
use Rattle.deadlock_laws.proofs.lengths.some_format_has_packets_of_each_length.Goals as goal

pub returns : goal.returns
returns c = some_format
