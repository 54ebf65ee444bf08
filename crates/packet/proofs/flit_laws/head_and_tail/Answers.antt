use Rattle.packet.proofs.Shapes.{TellsPacket-spelled, tail_bit-head, IsTailShaped-spelled}
use Rattle.packet.proofs.flit_laws.head_and_tail.Goals as goal

pub returns : goal.returns
returns c = record { head = TellsPacket-spelled; alone = tail_bit-head; rest = IsTailShaped-spelled }
