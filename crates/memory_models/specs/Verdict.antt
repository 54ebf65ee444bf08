-- The verdict on a trace.
use Rattle.std.specs.Prelude.{◌≡◌, ℕ, ◌+◌, ◌-◌, ◌<◌, List, length, slice_index, slice_index_or}
use Rattle.rising.specs.Found.{IsPermutationBelow}
use Rattle.memory_models.specs.declared.kinds.Operation.{Operation}
use Rattle.memory_models.specs.declared.kinds.Rule.{Rule}
use Rattle.memory_models.specs.declared.kinds.Step.{Step}
use Rattle.memory_models.specs.declared.kinds.Verdict.{Verdict}
use Rattle.memory_models.specs.declared.kinds.Verdict.TheVariants.{Ordered, Cycle}
use Rattle.memory_models.specs.Order.{IsMemoryOrder}
use Rattle.memory_models.specs.Arcs.{IsArc}

-- the step at a place of a cycle
abbrev pub step_at : List Step → ℕ → Step
step_at steps k = slice_index_or steps k (record { from = 0; to = 0 })

-- each step has a reason, and leads to the next, and the last one to the first
pub record AreAround (rules : List Rule) (ops : List Operation) (writes : List ℕ)
    (steps : List Step) : Type 0
  where
    pub some : 0 < length steps
    pub each : (k : ℕ) → k < length steps
        → IsArc rules ops writes (step_at steps k).from (step_at steps k).to
    pub joined : (k : ℕ) → k + 1 < length steps
        → (step_at steps k).to ≡ (step_at steps (k + 1)).from
    pub last : (step_at steps (length steps - 1)).to ≡ (step_at steps 0).from

-- an order of the model that explains the trace; or steps around, and then there is none
abbrev pub IsModelVerdict : {A : Type 0} → List Rule → List Operation → List ℕ → Verdict A → Type 0
IsModelVerdict rules ops writes (Ordered turns) =
    IsPermutationBelow (length ops) turns.items
    × IsMemoryOrder rules ops writes (slice_index turns.items)
IsModelVerdict rules ops writes (Cycle steps) =
    AreAround rules ops writes steps.items
    × ((turn : ℕ → ℕ) → IsMemoryOrder rules ops writes turn → ⊥)
