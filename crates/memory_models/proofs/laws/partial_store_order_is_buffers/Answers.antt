use Rattle.memory_models.proofs.Buffers.{word_run_is_order, order_is_word_run}
use Rattle.memory_models.proofs.Blocks.{made_at, left_at}
use Rattle.memory_models.proofs.laws.partial_store_order_is_buffers.Goals as goal

pub returns-clause-order : goal.returns-clause-order
returns-clause-order c words ops writes t made left run = word_run_is_order words ops writes made left t run

pub returns-clause-run : goal.returns-clause-run
returns-clause-run c words ops writes t turn o = (made_at ops turn, left_at ops turn, order_is_word_run words ops writes turn t o)
