-- What is checked of a trace, operation by operation and write by write.
use Rattle.std.specs.Prelude.{◌≡◌, ℕ, ◌+◌, ◌<◌, ◌≤◌, true, List, length, slice_index}
use Rattle.memory_models.specs.declared.kinds.Operation.{Operation}
use Rattle.memory_models.specs.Trace.{is_write, uses_word, operation_at, source_at}

-- an operation stands behind those of lower processors, on a word, and at a place of its word that
-- is its own if it writes
pub record IsGoodOperation (words : ℕ) (ops : List Operation) (writes : List ℕ) (x : ℕ) : Type 0
  where
    pub processor : (b : ℕ) → b + 1 ≡ x
        → (operation_at ops b).processor ≤ (operation_at ops x).processor
    pub word : (operation_at ops x).word < words
    pub place : uses_word (operation_at ops x).kind ≡ true
        → (operation_at ops x).place < length writes
    pub inside : uses_word (operation_at ops x).kind ≡ true → source_at ops writes x < length ops
    pub source : uses_word (operation_at ops x).kind ≡ true
        → (operation_at ops (source_at ops writes x)).word ≡ (operation_at ops x).word
    pub written : is_write (operation_at ops x).kind ≡ true
        → source_at ops writes x ≡ x

-- a place of the list of writes has a write whose place it is, behind those of lower words
pub record IsGoodWrite (ops : List Operation) (writes : List ℕ) (p : ℕ) : Type 0 where
  pub low : slice_index writes p < length ops
  pub is : is_write (operation_at ops (slice_index writes p)).kind ≡ true
  pub place : (operation_at ops (slice_index writes p)).place ≡ p
  pub before : (b : ℕ) → b + 1 ≡ p → slice_index writes b < length ops
  pub ordered : (b : ℕ) → b + 1 ≡ p
      → (operation_at ops (slice_index writes b)).word
      ≤ (operation_at ops (slice_index writes p)).word
