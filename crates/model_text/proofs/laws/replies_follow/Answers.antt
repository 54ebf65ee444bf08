use Rattle.model_text.proofs.Replied.{one_memory, by_buffers, by_word_buffers}
use Rattle.model_text.proofs.laws.replies_follow.Goals as goal

pub returns-clause-one_memory : goal.returns-clause-one_memory
returns-clause-one_memory c log words writes t opened all turn q order turns = one_memory log words writes t opened all turn q order turns

pub returns-clause-buffers : goal.returns-clause-buffers
returns-clause-buffers c log words writes t opened all made left run = by_buffers log words writes t opened all made left run

pub returns-clause-word_buffers : goal.returns-clause-word_buffers
returns-clause-word_buffers c log words writes t opened all made left run = by_word_buffers log words writes t opened all made left run
