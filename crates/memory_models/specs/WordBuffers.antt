-- The machine with a buffer of stores for each processor and each word: stores on different words
-- pass one another, and a fence waits for all of them (The SPARC Architecture Manual, version 9,
-- section 8.4.5 and appendix D: partial store order).
use Rattle.std.specs.Prelude.{◌≡◌, ◌⊎◌, ℕ, ◌<◌, true, List, length}
use Rattle.memory_models.specs.declared.kinds.Kind.TheVariants.{Store, Atomic, Fence}
use Rattle.memory_models.specs.declared.kinds.Operation.{Operation}
use Rattle.memory_models.specs.Trace.{is_load, is_write, operation_at, source_at, IsOwn, AreOnOne}
use Rattle.memory_models.specs.Machines.{effect_at, IsBuffered}

-- a run of it, as the times at which each operation is made and each store leaves its buffer
pub record IsWordBufferRun (ops : List Operation) (writes : List ℕ) (made left : ℕ → ℕ) : Type 0
  where
    -- one thing at a time
    pub made_apart : (x y : ℕ) → x < length ops → y < length ops → made x ≡ made y → x ≡ y
    pub left_apart : (x y : ℕ) → x < length ops → y < length ops → (operation_at ops x).kind ≡ Store
        → (operation_at ops y).kind ≡ Store → left x ≡ left y → x ≡ y
    pub both_apart : (x y : ℕ) → x < length ops → y < length ops
        → (operation_at ops y).kind ≡ Store → made x ≡ left y → ⊥
    -- operations are made in their program's order
    pub program : (x y : ℕ) → y < length ops → IsOwn ops x y → made x < made y
    -- a store goes into its word's buffer and leaves it later; the first in is the first out
    pub waits : (x : ℕ) → x < length ops → (operation_at ops x).kind ≡ Store → made x < left x
    pub first_out : (x y : ℕ) → y < length ops → IsOwn ops x y → (operation_at ops x).kind ≡ Store
        → (operation_at ops y).kind ≡ Store
        → (operation_at ops x).word ≡ (operation_at ops y).word → left x < left y
    -- an atomic is made when its word's buffer is empty
    pub drained : (x y : ℕ) → y < length ops → IsOwn ops x y → (operation_at ops x).kind ≡ Store
        → (operation_at ops y).kind ≡ Atomic
        → (operation_at ops x).word ≡ (operation_at ops y).word → left x < made y
    -- a fence is made when all of its processor's buffers are
    pub fenced : (x y : ℕ) → y < length ops → IsOwn ops x y → (operation_at ops x).kind ≡ Store
        → (operation_at ops y).kind ≡ Fence → left x < made y
    -- writes take effect in their word's order
    pub word_order : (x y : ℕ) → x < length ops → y < length ops
        → is_write (operation_at ops x).kind ≡ true
        → is_write (operation_at ops y).kind ≡ true → AreOnOne ops x y
        → (operation_at ops x).place < (operation_at ops y).place
        → effect_at ops made left x < effect_at ops made left y
    -- a load reads its word's buffer's last store, if there is one
    pub forwarded : (x s : ℕ) → x < length ops → is_load (operation_at ops x).kind ≡ true
        → IsBuffered ops made left s x
        → source_at ops writes x ≡ s
    -- and else memory, where the last write is what took effect last
    pub read : (x : ℕ) → x < length ops → is_load (operation_at ops x).kind ≡ true
        → ((s : ℕ) → IsBuffered ops made left s x → ⊥)
        → effect_at ops made left (source_at ops writes x) < made x
    pub last : (x w : ℕ) → x < length ops → w < length ops
        → is_load (operation_at ops x).kind ≡ true
        → ((s : ℕ) → IsBuffered ops made left s x → ⊥)
        → is_write (operation_at ops w).kind ≡ true → AreOnOne ops x w
        → effect_at ops made left w < made x
        → (w ≡ source_at ops writes x)
        ⊎ (effect_at ops made left w < effect_at ops made left (source_at ops writes x))
