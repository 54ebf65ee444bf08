use Rattle.packet.proofs.Shapes.{spelling_alone}
use Rattle.packet.proofs.flit_laws.no_spelling_begins_another.Goals as goal

pub returns : goal.returns
returns c = spelling_alone
