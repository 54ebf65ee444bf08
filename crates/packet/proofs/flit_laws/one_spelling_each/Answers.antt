use Rattle.packet.proofs.Spelled.{IsSpellable-spelled, IsOfWords-spelled}
use Rattle.packet.proofs.Told.{one_packet}
use Rattle.packet.proofs.Shapes.{one_list}
use Rattle.packet.proofs.flit_laws.one_spelling_each.Goals as goal

pub returns : goal.returns
returns c =
    record { one_list = one_list; spellable = IsSpellable-spelled; of_words = IsOfWords-spelled; one_packet = one_packet }
