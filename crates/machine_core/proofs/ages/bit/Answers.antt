use Rattle.std.proofs.Common.{refl}
use Rattle.packet.specs.Flit.{field}
use Rattle.machine_core.proofs.ages.bit.Goals as goal

pub returns : goal.returns
unfolding field
returns c = refl
