-- Which models a trace obeys.
use Rattle.std.specs.Prelude.{◌≡◌, ℕ, Bool, true, false, List}
use Rattle.memory_models.specs.declared.kinds.Operation.{Operation}
use Rattle.memory_models.specs.declared.kinds.Rule.{Rule}
use Rattle.memory_models.specs.declared.kinds.Verdict.{Verdict}
use Rattle.memory_models.specs.declared.kinds.Verdict.TheVariants.{Ordered, Cycle}
use Rattle.memory_models.specs.Machines.{IsSequential, IsBufferRun}
use Rattle.memory_models.specs.Models.{sequential, total_store_order, partial_store_order}
use Rattle.memory_models.specs.Models.{coherent, fenced}
use Rattle.memory_models.specs.Order.{IsMemoryOrder}
use Rattle.memory_models.specs.Verdict.{IsModelVerdict}
use Rattle.memory_models.specs.WordBuffers.{IsWordBufferRun}
use Rattle.memory_models.specs.WordOrders.{IsSequentialOn}
use Rattle.model_answer.specs.declared.judged.Verdicts.{Verdicts}
use Rattle.model_answer.specs.declared.judged.Obeys.{Obeys}

-- whether a verdict is an order
abbrev pub is_ordered : {A : Type 0} → Verdict A → Bool
is_ordered (Ordered turns) = true
is_ordered (Cycle steps) = false

-- the verdict of each model
pub record AreVerdicts {A : Type 0} (ops : List Operation) (writes : List ℕ) (v : Verdicts A) :
    Type 0
  where
    pub by_coherent : IsModelVerdict coherent ops writes v.coherent
    pub by_fenced : IsModelVerdict fenced ops writes v.fenced
    pub by_pso : IsModelVerdict partial_store_order ops writes v.pso
    pub by_tso : IsModelVerdict total_store_order ops writes v.tso
    pub by_sc : IsModelVerdict sequential ops writes v.sc

-- an answer says whether there is an order by some rules
pub record TellsOrder (rules : List Rule) (ops : List Operation) (writes : List ℕ) (b : Bool) :
    Type 0
  where
    pub yes : b ≡ true → (turn : ℕ → ℕ) × IsMemoryOrder rules ops writes turn
    pub no : b ≡ false → (turn : ℕ → ℕ) → IsMemoryOrder rules ops writes turn → ⊥

-- the answers of the models: coherence in the words of one memory for each word, partial and total
-- store order in those of machines with buffers of stores, sequential consistency in those of one
-- memory
pub record TellsObeyed (ops : List Operation) (writes : List ℕ) (o : Obeys) : Type 0 where
  pub by_coherent : TellsOrder coherent ops writes o.coherent
  pub word_memories : o.coherent ≡ true
      → (turn : ℕ → ℕ) × ((word : ℕ) → IsSequentialOn word ops writes turn)
  pub no_memories : o.coherent ≡ false → (turns : ℕ → ℕ → ℕ)
      → ((word : ℕ) → IsSequentialOn word ops writes (turns word)) → ⊥
  pub by_fenced : TellsOrder fenced ops writes o.fenced
  pub by_pso : TellsOrder partial_store_order ops writes o.pso
  pub word_runs : o.pso ≡ true
      → (made : ℕ → ℕ) × (left : ℕ → ℕ) × IsWordBufferRun ops writes made left
  pub no_word_run : o.pso ≡ false
      → (made left : ℕ → ℕ) → IsWordBufferRun ops writes made left → ⊥
  pub runs : o.tso ≡ true
      → (made : ℕ → ℕ) × (left : ℕ → ℕ) × IsBufferRun ops writes made left
  pub no_run : o.tso ≡ false → (made left : ℕ → ℕ) → IsBufferRun ops writes made left → ⊥
  pub one_memory : o.sc ≡ true → (turn : ℕ → ℕ) × IsSequential ops writes turn
  pub no_memory : o.sc ≡ false → (turn : ℕ → ℕ) → IsSequential ops writes turn → ⊥
