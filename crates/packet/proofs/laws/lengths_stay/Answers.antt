use Rattle.packet.proofs.Folds.{length-memory_after, length-replies}
use Rattle.packet.proofs.laws.lengths_stay.Goals as goal

pub returns : goal.returns
returns c = record { words = length-memory_after; replies = length-replies }
