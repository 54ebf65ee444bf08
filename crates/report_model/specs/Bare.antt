-- A memory trace without its fences.
use Rattle.std.specs.Prelude.{◌≡◌, ◌⊎◌, ℕ, ◌<◌, true, List, length, slice_index}
use Rattle.memory_models.specs.declared.kinds.Kind.TheVariants.{Fence}
use Rattle.memory_models.specs.declared.kinds.Operation.{Operation}
use Rattle.memory_models.specs.Trace.{operation_at, uses_word}

-- a trace is another one without its fences: its operations are those of the other one that are no
-- fences, in the same order, and of each word the same writes stand in the same order
pub record IsWithoutFences (bare : List Operation) (bare_writes : List ℕ) (ops : List Operation)
    (writes : List ℕ) : Type 0
  where
    -- where an operation stands in the other trace
    pub place : ℕ → ℕ
    pub within : (x : ℕ) → x < length bare → place x < length ops
    pub rising : (x y : ℕ) → x < y → y < length bare → place x < place y
    pub same : (x : ℕ) → x < length bare → operation_at ops (place x) ≡ operation_at bare x
    pub no_fence : (x : ℕ) → x < length bare → uses_word (operation_at bare x).kind ≡ true
    pub all : (y : ℕ) → y < length ops → ((x : ℕ) × (x < length bare) × (place x ≡ y))
        ⊎ ((operation_at ops y).kind ≡ Fence)
    pub written : (p : ℕ) → p < length bare_writes
        → slice_index writes p ≡ place (slice_index bare_writes p)
