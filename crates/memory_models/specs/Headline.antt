-- The verdicts in the words of a machine.
use Rattle.std.specs.Prelude.{ℕ, List, length, slice_index}
use Rattle.rising.specs.Found.{IsPermutationBelow}
use Rattle.memory_models.specs.declared.kinds.Operation.{Operation}
use Rattle.memory_models.specs.declared.kinds.Verdict.{Verdict}
use Rattle.memory_models.specs.declared.kinds.Verdict.TheVariants.{Ordered, Cycle}
use Rattle.memory_models.specs.Models.{sequential, total_store_order, partial_store_order}
use Rattle.memory_models.specs.Models.{coherent}
use Rattle.memory_models.specs.Machines.{IsSequential, IsBufferRun}
use Rattle.memory_models.specs.WordBuffers.{IsWordBufferRun}
use Rattle.memory_models.specs.WordOrders.{IsSequentialOn}
use Rattle.memory_models.specs.Order.{IsMemoryOrder}
use Rattle.memory_models.specs.Verdict.{AreAround}

-- one memory's order, or there is none
abbrev pub IsSequentialVerdict : {A : Type 0} → List Operation → List ℕ → Verdict A → Type 0
IsSequentialVerdict ops writes (Ordered turns) =
    IsPermutationBelow (length ops) turns.items × IsSequential ops writes (slice_index turns.items)
IsSequentialVerdict ops writes (Cycle steps) =
    AreAround sequential ops writes steps.items
    × ((turn : ℕ → ℕ) → IsSequential ops writes turn → ⊥)

-- an order of effects of which there is a run of the machine with buffers, or there is no run at
-- all
abbrev pub IsBufferVerdict : {A : Type 0} → List Operation → List ℕ → Verdict A → Type 0
IsBufferVerdict ops writes (Ordered turns) =
    IsPermutationBelow (length ops) turns.items
    × IsMemoryOrder total_store_order ops writes (slice_index turns.items)
    × ((made : ℕ → ℕ) × (left : ℕ → ℕ) × IsBufferRun ops writes made left)
IsBufferVerdict ops writes (Cycle steps) =
    AreAround total_store_order ops writes steps.items
    × ((made left : ℕ → ℕ) → IsBufferRun ops writes made left → ⊥)

-- an order of effects of which there is a run of the machine with a buffer for each processor and
-- each word, or there is no run at all
abbrev pub IsWordBufferVerdict : {A : Type 0} → List Operation → List ℕ → Verdict A → Type 0
IsWordBufferVerdict ops writes (Ordered turns) =
    IsPermutationBelow (length ops) turns.items
    × IsMemoryOrder partial_store_order ops writes (slice_index turns.items)
    × ((made : ℕ → ℕ) × (left : ℕ → ℕ) × IsWordBufferRun ops writes made left)
IsWordBufferVerdict ops writes (Cycle steps) =
    AreAround partial_store_order ops writes steps.items
    × ((made left : ℕ → ℕ) → IsWordBufferRun ops writes made left → ⊥)

-- an order that is one memory's for each word alone; or there are no such orders of all words
abbrev pub IsWordVerdict : {A : Type 0} → List Operation → List ℕ → Verdict A → Type 0
IsWordVerdict ops writes (Ordered turns) =
    IsPermutationBelow (length ops) turns.items
    × ((word : ℕ) → IsSequentialOn word ops writes (slice_index turns.items))
IsWordVerdict ops writes (Cycle steps) =
    AreAround coherent ops writes steps.items
    × ((turns : ℕ → ℕ → ℕ) → ((word : ℕ) → IsSequentialOn word ops writes (turns word)) → ⊥)
