use Rattle.packet.proofs.Named.{named_by_its_number}
use Rattle.packet.proofs.laws.numbers_name_operations.Goals as goal

pub returns : goal.returns
returns c = named_by_its_number
