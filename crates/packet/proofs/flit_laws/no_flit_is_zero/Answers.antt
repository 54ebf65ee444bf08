use Rattle.packet.proofs.Shapes.{flits_above_zero, flits_of_words}
use Rattle.packet.proofs.flit_laws.no_flit_is_zero.Goals as goal

pub returns : goal.returns
returns c = record { some = flits_above_zero; words = flits_of_words }
