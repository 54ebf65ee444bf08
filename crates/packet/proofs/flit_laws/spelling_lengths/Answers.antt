use Rattle.packet.proofs.Shapes.{length-spelled, at_most_five, at_most_three}
use Rattle.packet.proofs.flit_laws.spelling_lengths.Goals as goal

pub returns : goal.returns
returns c = record { length = length-spelled; most = at_most_five; reply = at_most_three }
