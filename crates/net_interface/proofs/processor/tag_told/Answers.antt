use Rattle.std.proofs.Common.{refl}
use Rattle.packet.specs.Flit.{field}
use Rattle.net_interface.proofs.processor.tag_told.Goals as goal

pub returns : goal.returns
unfolding field
returns c = refl
