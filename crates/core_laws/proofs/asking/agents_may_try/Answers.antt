use Rattle.core_laws.proofs.Tries.{word_there, word_asked}
use Rattle.core_laws.proofs.asking.agents_may_try.Goals as goal

pub returns : goal.returns
returns c = record { room = word_there; flit = word_asked }
