use Rattle.packet.proofs.Folds.{other_word}
use Rattle.packet.proofs.laws.other_words_stay.Goals as goal

pub returns : goal.returns
returns c = other_word
