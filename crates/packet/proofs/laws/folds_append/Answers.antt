use Rattle.packet.proofs.Folds.{memory_after-append, replies-append}
use Rattle.packet.proofs.laws.folds_append.Goals as goal

pub returns : goal.returns
returns c = record { memory = memory_after-append; replies = replies-append }
