-- Atomics of which each follows a write of its own.
use Rattle.std.specs.Prelude.{◌≡◌, ◌≢◌, ◌⊎◌, ℕ, List, slice_index}
use Rattle.memory_models.specs.declared.kinds.Kind.TheVariants.{Atomic}
use Rattle.memory_models.specs.Trace.{operation_at}
use Rattle.model_values.specs.declared.valued.Valued.{Valued}
use Rattle.model_values.specs.Values.{IsLeftBy}

-- two writes left what an operation found
pub record HasTwo (v : Valued) (x : ℕ) : Type 0 where
  pub one : ℕ
  pub two : ℕ
  pub other : one ≢ two
  pub left : IsLeftBy v.operations.now v.left.now v.found.now x one
  pub left_too : IsLeftBy v.operations.now v.left.now v.found.now x two

-- a write left what an operation found, and is told to be followed by it
pub record HasOwn (v : Valued) (followers : List ℕ) (x : ℕ) : Type 0 where
  pub source : ℕ
  pub left : IsLeftBy v.operations.now v.left.now v.found.now x source
  pub told : slice_index followers source ≡ x

-- an atomic has two such writes, or one of its own
abbrev pub IsFollowed : Valued → List ℕ → ℕ → Type 0
IsFollowed v followers x =
    (operation_at v.operations.now x).kind ≡ Atomic → HasTwo v x ⊎ HasOwn v followers x
