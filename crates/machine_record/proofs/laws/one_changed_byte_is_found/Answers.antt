use Rattle.machine_record.proofs.OneByte.{one_changed}
use Rattle.machine_record.proofs.laws.one_changed_byte_is_found.Goals as goal

pub returns : goal.returns
returns c = λ bs at byte is other kept. one_changed bs is.kept kept at byte is.read is.sealed is.bytes other.there other.small other.other
