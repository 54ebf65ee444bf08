-- Machines with buffers of stores, by which stores leave before what.
use Rattle.std.proofs.Common.{◌≡◌, ◌⊎◌, ℕ, ◌<◌, true, List, length}
use Rattle.memory_models.specs.declared.kinds.Kind.TheVariants.{Load, Store, Atomic, Fence}
use Rattle.memory_models.specs.declared.kinds.Operation.{Operation}
use Rattle.memory_models.specs.declared.kinds.Rule.{Rule}
use Rattle.memory_models.specs.Trace.{is_load, is_write, operation_at, IsOwn, AreOnOne, source_at}
use Rattle.memory_models.specs.Order.{KeepsOrder}
use Rattle.memory_models.specs.Machines.{effect_at, IsBuffered}

-- which stores leave before a later operation of their processor takes effect: in any case where both are on one word
pub record IsKept (rules : List Rule) (ops : List Operation) (Keeps : ℕ → ℕ → Type 0) : Type 0 where
  pub same : (x y : ℕ) → (operation_at ops x).word ≡ (operation_at ops y).word → Keeps x y
  pub kept : (x y : ℕ) → KeepsOrder rules ops x y
      → IsOwn ops x y × (((operation_at ops x).kind ≡ Store → ⊥) ⊎ (((operation_at ops y).kind ≡ Load → ⊥) × Keeps x y))
  pub other : (x y : ℕ) → IsOwn ops x y → ((operation_at ops x).kind ≡ Store → ⊥) → KeepsOrder rules ops x y
  pub store : (x y : ℕ) → IsOwn ops x y → (operation_at ops x).kind ≡ Store → ((operation_at ops y).kind ≡ Load → ⊥) → Keeps x y
      → KeepsOrder rules ops x y

-- a run of a machine whose stores leave so
pub record IsRunBy (Keeps : ℕ → ℕ → Type 0) (ops : List Operation) (writes : List ℕ) (made left : ℕ → ℕ) : Type 0 where
  pub made_apart : (x y : ℕ) → x < length ops → y < length ops → made x ≡ made y → x ≡ y
  pub left_apart : (x y : ℕ) → x < length ops → y < length ops → (operation_at ops x).kind ≡ Store
      → (operation_at ops y).kind ≡ Store → left x ≡ left y → x ≡ y
  pub both_apart : (x y : ℕ) → x < length ops → y < length ops → (operation_at ops y).kind ≡ Store → made x ≡ left y → ⊥
  pub program : (x y : ℕ) → y < length ops → IsOwn ops x y → made x < made y
  pub waits : (x : ℕ) → x < length ops → (operation_at ops x).kind ≡ Store → made x < left x
  pub first_out : (x y : ℕ) → y < length ops → IsOwn ops x y → (operation_at ops x).kind ≡ Store
      → (operation_at ops y).kind ≡ Store → Keeps x y → left x < left y
  pub drained : (x y : ℕ) → y < length ops → IsOwn ops x y → (operation_at ops x).kind ≡ Store
      → ((operation_at ops y).kind ≡ Atomic) ⊎ ((operation_at ops y).kind ≡ Fence) → Keeps x y → left x < made y
  pub word_order : (x y : ℕ) → x < length ops → y < length ops → is_write (operation_at ops x).kind ≡ true
      → is_write (operation_at ops y).kind ≡ true → AreOnOne ops x y → (operation_at ops x).place < (operation_at ops y).place
      → effect_at ops made left x < effect_at ops made left y
  pub forwarded : (x s : ℕ) → x < length ops → is_load (operation_at ops x).kind ≡ true → IsBuffered ops made left s x
      → source_at ops writes x ≡ s
  pub read : (x : ℕ) → x < length ops → is_load (operation_at ops x).kind ≡ true → ((s : ℕ) → IsBuffered ops made left s x → ⊥)
      → effect_at ops made left (source_at ops writes x) < made x
  pub last : (x w : ℕ) → x < length ops → w < length ops → is_load (operation_at ops x).kind ≡ true
      → ((s : ℕ) → IsBuffered ops made left s x → ⊥) → is_write (operation_at ops w).kind ≡ true → AreOnOne ops x w
      → effect_at ops made left w < made x
      → (w ≡ source_at ops writes x) ⊎ (effect_at ops made left w < effect_at ops made left (source_at ops writes x))
