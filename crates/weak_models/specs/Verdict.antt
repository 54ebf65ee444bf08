-- The verdict on a trace by RISC-V's memory model.
use Rattle.std.specs.Prelude.{◌≡◌, ℕ, ◌+◌, ◌-◌, ◌<◌, List, length, slice_index}
use Rattle.rising.specs.Found.{IsPermutationBelow}
use Rattle.memory_models.specs.declared.kinds.Operation.{Operation}
use Rattle.weak_models.specs.declared.notes.Note.{Note}
use Rattle.weak_models.specs.declared.notes.Dependency.{Dependency}
use Rattle.weak_models.specs.declared.verdict.ReasonedStep.{ReasonedStep}
use Rattle.weak_models.specs.declared.verdict.RvwmoVerdict.{RvwmoVerdict}
use Rattle.weak_models.specs.declared.verdict.RvwmoVerdict.TheVariants.{Ordered, Cycle}
use Rattle.weak_models.specs.Order.{IsRvwmo}
use Rattle.weak_models.specs.Arcs.{IsReason, reasoned_at}

-- each step has its reason, and leads to the next, and the last one to the first
pub record AreAround (notes : List Note) (dependencies : List Dependency) (ops : List Operation)
    (writes : List ℕ) (steps : List ReasonedStep) : Type 0
  where
    pub some : 0 < length steps
    pub each : (k : ℕ) → k < length steps
        → IsReason notes dependencies ops writes (reasoned_at steps k).from
        (reasoned_at steps k).to (reasoned_at steps k).why
    pub joined : (k : ℕ) → k + 1 < length steps
        → (reasoned_at steps k).to ≡ (reasoned_at steps (k + 1)).from
    pub last : (reasoned_at steps (length steps - 1)).to ≡ (reasoned_at steps 0).from

-- turns of all operations in an order of the model that explains the trace
abbrev pub IsOrderOf : List Note → List Dependency → List Operation → List ℕ → List ℕ → Type 0
IsOrderOf notes dependencies ops writes turns =
    IsPermutationBelow (length ops) turns × IsRvwmo notes dependencies ops writes (slice_index turns)

-- an order of the model that explains the trace; or steps around, and then there is none
abbrev pub IsRvwmoVerdict : {A : Type 0} → List Note → List Dependency → List Operation → List ℕ
    → RvwmoVerdict A → Type 0
IsRvwmoVerdict notes dependencies ops writes (Ordered turns) =
    IsOrderOf notes dependencies ops writes turns.items
IsRvwmoVerdict notes dependencies ops writes (Cycle steps) =
    AreAround notes dependencies ops writes steps.items
    × ((turn : ℕ → ℕ) → IsRvwmo notes dependencies ops writes turn → ⊥)
