-- Steps around a circle of operations.
use Rattle.std.specs.Prelude.{◌≡◌, ℕ, ◌+◌, ◌<◌, ◌≤◌, List, length, slice_index}
use Rattle.memory_models.specs.declared.kinds.Operation.{Operation}
use Rattle.weak_models.specs.declared.notes.Note.{Note}
use Rattle.weak_models.specs.declared.notes.Dependency.{Dependency}
use Rattle.weak_models.specs.declared.verdict.ReasonedStep.{ReasonedStep}
use Rattle.weak_models.specs.Arcs.{IsReason, reasoned_at}

-- a step from an operation to another has its reason
pub record IsReasonedStep (notes : List Note) (dependencies : List Dependency) (ops : List Operation)
    (writes : List ℕ) (step : ReasonedStep) : Type 0
  where
    pub from : step.from < length ops
    pub to : step.to < length ops
    pub is : IsReason notes dependencies ops writes step.from step.to step.why

-- it leads from an operation of a circle to the next one, and from the last to the first
pub record IsStepAround (notes : List Note) (dependencies : List Dependency) (ops : List Operation)
    (writes : List ℕ) (around : List ℕ) (k : ℕ) (step : ReasonedStep) : Type 0
  where
    pub from : step.from ≡ slice_index around k
    pub next : k + 1 < length around → step.to ≡ slice_index around (k + 1)
    pub last : length around ≤ k + 1 → step.to ≡ slice_index around 0
    pub is : IsReasonedStep notes dependencies ops writes step

-- there is one from each operation of a circle
pub record AreStepsAround (notes : List Note) (dependencies : List Dependency) (ops : List Operation)
    (writes : List ℕ) (around : List ℕ) (steps : List ReasonedStep) : Type 0
  where
    pub some : 0 < length around
    pub size : length steps ≡ length around
    pub each : (k : ℕ) → k < length around
        → IsStepAround notes dependencies ops writes around k (reasoned_at steps k)
