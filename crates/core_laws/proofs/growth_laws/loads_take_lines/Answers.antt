use Rattle.core_laws.proofs.Loads.{accepted_with, most_with, read_with}
use Rattle.core_laws.proofs.growth_laws.loads_take_lines.Goals as goal

pub returns : goal.returns
returns n = record {
  accepted = accepted_with;
  read = read_with;
  most = λ l p line may. most_with l p line may.there;
}
