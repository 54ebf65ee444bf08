use Rattle.one_order.proofs.BankReplay.{banks_replay}
use Rattle.one_order.proofs.Naming.{entry_stands}
use Rattle.one_order.proofs.laws.banks_replay.Goals as goal

pub returns : goal.returns
returns c = record { stands = entry_stands; replay = banks_replay }
