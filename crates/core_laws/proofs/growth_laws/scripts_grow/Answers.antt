use Rattle.core_laws.proofs.Loads.{accepted_with}
use Rattle.core_laws.proofs.GrowthMachines.{grown, moves_again, state_again}
use Rattle.core_laws.proofs.growth_laws.scripts_grow.Goals as goal

pub returns : goal.returns
returns n = record {
  stands = grown;
  within = λ l c steps p line h un may. grown l c steps p line h un (accepted_with l p line h.accepted may);
  moves = moves_again;
  state = state_again;
}
