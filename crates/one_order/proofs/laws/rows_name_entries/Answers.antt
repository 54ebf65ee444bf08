use Rattle.one_order.proofs.BankReplay.{name_entries}
use Rattle.one_order.proofs.Naming.{answers_numbered}
use Rattle.one_order.proofs.laws.rows_name_entries.Goals as goal

pub returns : goal.returns
returns c = record { entries = name_entries; answers = answers_numbered }
