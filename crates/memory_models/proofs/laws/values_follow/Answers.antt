use Rattle.std.proofs.Common.{◌∙◌, ap}
use Rattle.memory_models.proofs.Replayed.{sequential_finds, buffers_find}
use Rattle.memory_models.proofs.Buffers.{OnWordOrFence, partial_run, total_run}
use Rattle.memory_models.proofs.laws.values_follow.Goals as goal

pub returns-clause-one_memory : goal.returns-clause-one_memory
returns-clause-one_memory c words ops writes t turn q order turns makes found opening valued k low finds =
    sequential_finds words ops writes turn order makes found opening t q turns valued k low finds

pub returns-clause-memory : goal.returns-clause-memory
returns-clause-memory c words ops writes t made left run order turns makes found opening valued k low finds none =
    buffers_find (λ x y. Unit {0}) words ops writes made left order makes found opening t (total_run ops writes made left run) turns valued k low finds none

pub returns-clause-buffer : goal.returns-clause-buffer
returns-clause-buffer c words ops writes t made left run makes found valued x s low load buffered =
    valued.reads x low load ∙ ap (λ z. makes z (found z)) (run.forwarded x s low load buffered)

pub returns-clause-word_memory : goal.returns-clause-word_memory
returns-clause-word_memory c words ops writes t made left run order turns makes found opening valued k low finds none =
    buffers_find (OnWordOrFence ops) words ops writes made left order makes found opening t (partial_run ops writes made left run) turns valued k low finds none

pub returns-clause-word_buffer : goal.returns-clause-word_buffer
returns-clause-word_buffer c words ops writes t made left run makes found valued x s low load buffered =
    valued.reads x low load ∙ ap (λ z. makes z (found z)) (run.forwarded x s low load buffered)
