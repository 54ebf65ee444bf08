-- Models in the words of a machine: one memory for all, and a buffer of stores for each processor.
-- Lamport, How to make a multiprocessor computer that correctly executes multiprocess programs,
-- 1979; Owens, Sarkar and Sewell, A better x86 memory model: x86-TSO, 2009 (the abstract machine).
use Rattle.std.specs.Prelude.{◌≡◌, ◌⊎◌, ℕ, ◌<◌, ◌≤◌, true, List, length}
use Rattle.memory_models.specs.declared.kinds.Kind.{Kind}
use Rattle.memory_models.specs.declared.kinds.Kind.TheVariants.{Load, Store, Atomic, Fence}
use Rattle.memory_models.specs.declared.kinds.Operation.{Operation}
use Rattle.memory_models.specs.Trace.{is_load, is_write, operation_at, source_at, IsOwn, AreOnOne}

-- one operation after the other, each processor's in its program's order and each word's writes in
-- the word's: and a load reads the last write on its word before it (Lamport 1979)
pub record IsSequential (ops : List Operation) (writes : List ℕ) (turn : ℕ → ℕ) : Type 0 where
  pub apart : (x y : ℕ) → x < length ops → y < length ops → turn x ≡ turn y → x ≡ y
  pub program : (x y : ℕ) → y < length ops → IsOwn ops x y → turn x < turn y
  pub word_order : (x y : ℕ) → x < length ops → y < length ops
      → is_write (operation_at ops x).kind ≡ true
      → is_write (operation_at ops y).kind ≡ true → AreOnOne ops x y
      → (operation_at ops x).place < (operation_at ops y).place
      → turn x < turn y
  pub read : (x : ℕ) → x < length ops → is_load (operation_at ops x).kind ≡ true
      → turn (source_at ops writes x) < turn x
  pub last : (x w : ℕ) → x < length ops → w < length ops → is_load (operation_at ops x).kind ≡ true
      → is_write (operation_at ops w).kind ≡ true → AreOnOne ops x w → turn w < turn x
      → (w ≡ source_at ops writes x) ⊎ (turn w < turn (source_at ops writes x))

-- when an operation of a kind takes effect on memory: a store when it leaves its buffer, all else
-- when it is made
abbrev pub effect_time : (ℕ → ℕ) → (ℕ → ℕ) → Kind → ℕ → ℕ
effect_time made left Load x = made x
effect_time made left Store x = left x
effect_time made left Atomic x = made x
effect_time made left Fence x = made x

-- when an operation of a trace does
abbrev pub effect_at : List Operation → (ℕ → ℕ) → (ℕ → ℕ) → ℕ → ℕ
effect_at ops made left x = effect_time made left (operation_at ops x).kind x

-- the last store on a load's word that its processor made before the load, still in the buffer when
-- the load is made
pub record IsBuffered (ops : List Operation) (made left : ℕ → ℕ) (s x : ℕ) : Type 0 where
  pub store : (operation_at ops s).kind ≡ Store
  pub own : IsOwn ops s x
  pub word : (operation_at ops s).word ≡ (operation_at ops x).word
  pub waits : made x < left s
  pub newest : (r : ℕ) → (operation_at ops r).kind ≡ Store → IsOwn ops r x
      → (operation_at ops r).word ≡ (operation_at ops x).word → r ≤ s

-- a run of the machine, as the times at which each operation is made and each store leaves its
-- processor's buffer (Owens, Sarkar and Sewell 2009)
pub record IsBufferRun (ops : List Operation) (writes : List ℕ) (made left : ℕ → ℕ) : Type 0 where
  -- one thing at a time
  pub made_apart : (x y : ℕ) → x < length ops → y < length ops → made x ≡ made y → x ≡ y
  pub left_apart : (x y : ℕ) → x < length ops → y < length ops → (operation_at ops x).kind ≡ Store
      → (operation_at ops y).kind ≡ Store → left x ≡ left y → x ≡ y
  pub both_apart : (x y : ℕ) → x < length ops → y < length ops
      → (operation_at ops y).kind ≡ Store → made x ≡ left y → ⊥
  -- operations are made in their program's order
  pub program : (x y : ℕ) → y < length ops → IsOwn ops x y → made x < made y
  -- a store goes into the buffer and leaves it later; the first in is the first out
  pub waits : (x : ℕ) → x < length ops → (operation_at ops x).kind ≡ Store → made x < left x
  pub first_out : (x y : ℕ) → y < length ops → IsOwn ops x y → (operation_at ops x).kind ≡ Store
      → (operation_at ops y).kind ≡ Store → left x < left y
  -- an atomic or a fence is made when the buffer is empty
  pub drained : (x y : ℕ) → y < length ops → IsOwn ops x y → (operation_at ops x).kind ≡ Store
      → ((operation_at ops y).kind ≡ Atomic) ⊎ ((operation_at ops y).kind ≡ Fence) → left x < made y
  -- writes take effect in their word's order
  pub word_order : (x y : ℕ) → x < length ops → y < length ops
      → is_write (operation_at ops x).kind ≡ true
      → is_write (operation_at ops y).kind ≡ true → AreOnOne ops x y
      → (operation_at ops x).place < (operation_at ops y).place
      → effect_at ops made left x < effect_at ops made left y
  -- a load reads its buffer's last store on the word, if there is one
  pub forwarded : (x s : ℕ) → x < length ops → is_load (operation_at ops x).kind ≡ true
      → IsBuffered ops made left s x
      → source_at ops writes x ≡ s
  -- and else memory, where the last write is what took effect last
  pub read : (x : ℕ) → x < length ops → is_load (operation_at ops x).kind ≡ true
      → ((s : ℕ) → IsBuffered ops made left s x → ⊥)
      → effect_at ops made left (source_at ops writes x) < made x
  pub last : (x w : ℕ) → x < length ops → w < length ops → is_load (operation_at ops x).kind ≡ true
      → ((s : ℕ) → IsBuffered ops made left s x → ⊥)
      → is_write (operation_at ops w).kind ≡ true → AreOnOne ops x w
      → effect_at ops made left w < made x
      → (w ≡ source_at ops writes x)
      ⊎ (effect_at ops made left w < effect_at ops made left (source_at ops writes x))
