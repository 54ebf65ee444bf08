-- The words that operations found, by one order of all operations alone: of the writes that an
-- operation can see, the newest one left what it found.
use Rattle.std.specs.Prelude.{◌≡◌, ◌⊎◌, ℕ, ◌<◌, ◌≤◌, true, List, length}
use Rattle.memory_models.specs.declared.kinds.Operation.{Operation}
use Rattle.memory_models.specs.declared.kinds.Rule.{Rule}
use Rattle.memory_models.specs.Order.{KeepsOrder}
use Rattle.memory_models.specs.Trace.{is_write, operation_at, IsOwn}
use Rattle.model_values.specs.declared.valued.Valued.{Valued}
use Rattle.model_values.specs.Unordered.{IsClosingOf, IsOpeningOf}
use Rattle.model_values.specs.Values.{IsLeftBy, IsReader}

-- an operation can see a write: one before it in the order, or one before it in its own processor's
-- program
abbrev pub CanSee : List Operation → (ℕ → ℕ) → ℕ → ℕ → Type 0
CanSee ops turn x w = (turn w < turn x) ⊎ IsOwn ops w x

-- of the writes on its word that an operation can see, the newest one left what it found; of a
-- closing load it is the newest one of all writes on its word
pub record FindsNewest (v : Valued) (turn : ℕ → ℕ) (x : ℕ) : Type 0 where
  pub newest : ℕ
  pub left : IsLeftBy v.operations.now v.left.now v.found.now x newest
  pub seen : CanSee v.operations.now turn x newest
  pub last : (w : ℕ) → w < length v.operations.now
      → is_write (operation_at v.operations.now w).kind ≡ true
      → (operation_at v.operations.now w).word ≡ (operation_at v.operations.now x).word
      → CanSee v.operations.now turn x w → (w ≡ newest) ⊎ (turn w < turn newest)
  pub closed : (w : ℕ) → w < length v.operations.now → IsClosingOf v.closing v.operations.now x w
      → (w ≡ newest) ⊎ (turn w < turn newest)

-- the operations of each processor stand together, and their words are below the number of words
pub record AreGrouped (v : Valued) : Type 0 where
  pub processors : (x y : ℕ) → x ≤ y → y < length v.operations.now
      → (operation_at v.operations.now x).processor ≤ (operation_at v.operations.now y).processor
  pub word : (x : ℕ) → x < length v.operations.now → (operation_at v.operations.now x).word < v.words

-- one order of all operations that keeps the model's program order and begins each word with its
-- opening store, and in which each load and atomic finds what the newest write that it can see left
pub record IsReplyOrder (rules : List Rule) (v : Valued) (turn : ℕ → ℕ) : Type 0 where
  pub apart : (x y : ℕ) → x < length v.operations.now → y < length v.operations.now
      → turn x ≡ turn y → x ≡ y
  pub program : (x y : ℕ) → x < length v.operations.now → y < length v.operations.now
      → KeepsOrder rules v.operations.now x y → turn x < turn y
  pub opened : (x y : ℕ) → x < length v.operations.now → y < length v.operations.now
      → IsOpeningOf v.openings v.operations.now x y → turn x < turn y
  pub finds : (x : ℕ) → x < length v.operations.now → IsReader v.operations.now x
      → FindsNewest v turn x
