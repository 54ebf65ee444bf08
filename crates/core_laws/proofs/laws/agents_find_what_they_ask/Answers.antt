use Rattle.core_laws.proofs.AskedFor.{router_asked, processor_asked, bank_asked}
use Rattle.core_laws.proofs.laws.agents_find_what_they_ask.Goals as goal

pub returns : goal.returns
returns c = record { router = router_asked; processor = processor_asked; bank = bank_asked }
