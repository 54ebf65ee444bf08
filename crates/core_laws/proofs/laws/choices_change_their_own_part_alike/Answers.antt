use Rattle.core_laws.proofs.SameEnds.{processor_ends, router_ends, bank_ends}
use Rattle.core_laws.proofs.laws.choices_change_their_own_part_alike.Goals as goal

pub returns : goal.returns
returns c = record { processor = processor_ends; router = router_ends; bank = bank_ends }
