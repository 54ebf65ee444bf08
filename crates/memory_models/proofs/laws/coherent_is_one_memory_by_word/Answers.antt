use Rattle.memory_models.proofs.Coherent.{coherent_is_sequential_on, sequential_on_is_coherent, merged}
use Rattle.memory_models.proofs.laws.coherent_is_one_memory_by_word.Goals as goal

pub returns-clause-words : goal.returns-clause-words
returns-clause-words c words ops writes t turn o word = coherent_is_sequential_on words ops writes turn t o word

pub returns-clause-order : goal.returns-clause-order
returns-clause-order c words ops writes t turns all = (merged words ops turns, sequential_on_is_coherent words ops writes turns t all)
