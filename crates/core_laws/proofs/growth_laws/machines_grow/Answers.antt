use Rattle.core_laws.proofs.GrowthMachines.{from_load, all_grown, all_moves_again}
use Rattle.core_laws.proofs.growth_laws.machines_grow.Goals as goal

pub returns : goal.returns
returns n = record {
  from_load = from_load;
  from_machine = all_grown;
  moves = all_moves_again;
}
