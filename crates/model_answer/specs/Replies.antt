-- What an answer tells of the replies of a log.
use Rattle.std.specs.Prelude.{◌≡◌, ℕ, true, List}
use Rattle.memory_models.specs.declared.kinds.Operation.{Operation}
use Rattle.memory_models.specs.Machines.{IsSequential, IsBufferRun}
use Rattle.memory_models.specs.Values.{AreInTurns}
use Rattle.memory_models.specs.WordBuffers.{IsWordBufferRun}
use Rattle.model_text.specs.declared.logged.Logged.{Logged}
use Rattle.model_text.specs.OneMemory.{AreRepliesInTurn, AreRepliesOfBuffers}
use Rattle.model_answer.specs.declared.judged.Obeys.{Obeys}

-- an order of the trace in which one memory gives each reply of the log
pub record HasMemory (steps : List Logged) (ops : List Operation) (writes : List ℕ) : Type 0 where
  pub turn : ℕ → ℕ
  pub order : List ℕ
  pub sequential : IsSequential ops writes turn
  pub turns : AreInTurns ops turn order
  pub replies : AreRepliesInTurn steps ops order

-- a run with a buffer of stores for each processor that gives each reply
pub record HasBuffers (steps : List Logged) (ops : List Operation) (writes : List ℕ) : Type 0 where
  pub made : ℕ → ℕ
  pub left : ℕ → ℕ
  pub run : IsBufferRun ops writes made left
  pub replies : AreRepliesOfBuffers steps ops made left

-- one with a buffer for each processor and each word
pub record HasWordBuffers (steps : List Logged) (ops : List Operation) (writes : List ℕ) : Type 0
  where
    pub made : ℕ → ℕ
    pub left : ℕ → ℕ
    pub run : IsWordBufferRun ops writes made left
    pub replies : AreRepliesOfBuffers steps ops made left

-- where a model is obeyed its machine gives the replies
pub record TellsReplies (steps : List Logged) (ops : List Operation) (writes : List ℕ)
    (o : Obeys) : Type 0
  where
    pub one_memory : o.sc ≡ true → HasMemory steps ops writes
    pub buffers : o.tso ≡ true → HasBuffers steps ops writes
    pub word_buffers : o.pso ≡ true → HasWordBuffers steps ops writes
