-- One word alone, as one memory.
use Rattle.std.specs.Prelude.{◌≡◌, ◌⊎◌, ℕ, ◌<◌, true, List, length}
use Rattle.memory_models.specs.declared.kinds.Operation.{Operation}
use Rattle.memory_models.specs.Trace.{is_load, is_write, uses_word, operation_at, source_at}
use Rattle.memory_models.specs.Trace.{IsOwn}

-- an operation is on a word
pub record IsOnWord (ops : List Operation) (word x : ℕ) : Type 0 where
  pub low : x < length ops
  pub uses : uses_word (operation_at ops x).kind ≡ true
  pub is : (operation_at ops x).word ≡ word

-- the operations on a word, one after the other: each processor's in its program's order and the
-- writes in the word's, and a load reads the last write before it (Lamport 1979, for one word:
-- Cantin, Lipasti and Smith, The complexity of verifying memory coherence, 2003)
pub record IsSequentialOn (word : ℕ) (ops : List Operation) (writes : List ℕ) (turn : ℕ → ℕ) :
    Type 0
  where
    pub apart : (x y : ℕ) → IsOnWord ops word x → IsOnWord ops word y → turn x ≡ turn y → x ≡ y
    pub program : (x y : ℕ) → IsOnWord ops word x → IsOnWord ops word y → IsOwn ops x y → turn x < turn y
    pub word_order : (x y : ℕ) → IsOnWord ops word x → IsOnWord ops word y
        → is_write (operation_at ops x).kind ≡ true
        → is_write (operation_at ops y).kind ≡ true
        → (operation_at ops x).place < (operation_at ops y).place → turn x < turn y
    pub read : (x : ℕ) → IsOnWord ops word x → is_load (operation_at ops x).kind ≡ true
        → turn (source_at ops writes x) < turn x
    pub last : (x w : ℕ) → IsOnWord ops word x → IsOnWord ops word w
        → is_load (operation_at ops x).kind ≡ true
        → is_write (operation_at ops w).kind ≡ true → turn w < turn x
        → (w ≡ source_at ops writes x) ⊎ (turn w < turn (source_at ops writes x))
