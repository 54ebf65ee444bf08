use Rattle.packet.proofs.Words.{word_stays, reply_stays}
use Rattle.packet.proofs.laws.operations_leave_words.Goals as goal

pub returns : goal.returns
returns c = record { word = word_stays; reply = reply_stays }
