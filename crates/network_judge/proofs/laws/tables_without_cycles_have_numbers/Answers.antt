use Rattle.network_judge.proofs.Acyclic.{cycle_or_numbers}
use Rattle.network_judge.proofs.laws.tables_without_cycles_have_numbers.Goals as goal

pub returns : goal.returns
returns c = cycle_or_numbers
