use Rattle.one_order.proofs.Values.{brings_words}
use Rattle.one_order.proofs.follower_laws.operations_bring_words.Goals as goal

pub returns : goal.returns
returns c = brings_words
