use Rattle.one_order.proofs.Naming.{answers_name}
use Rattle.one_order.proofs.laws.answers_name_entries.Goals as goal

pub returns : goal.returns
returns c = answers_name
