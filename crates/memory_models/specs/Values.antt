-- The words that one memory gives operations in an order, and the words that they find along each
-- word's order of writes.
use Rattle.std.specs.Prelude.{◌≡◌, ◌⊎◌, ℕ, zero, suc, ◌+◌, ◌<◌, ◌==◌, if◌then◌else◌, true, false}
use Rattle.std.specs.Prelude.{List, length, slice_index}
use Rattle.memory_models.specs.declared.kinds.Operation.{Operation}
use Rattle.memory_models.specs.Trace.{is_load, is_write, operation_at, source_at}

-- all operations of a trace, each in its turn
pub record AreInTurns (ops : List Operation) (turn : ℕ → ℕ) (order : List ℕ) : Type 0 where
  pub low : (k : ℕ) → k < length order → slice_index order k < length ops
  pub rise : (j k : ℕ) → j < k → k < length order
      → turn (slice_index order j) < turn (slice_index order k)
  pub each : (x : ℕ) → x < length ops
      → (k : ℕ) × (k < length order) × (slice_index order k ≡ x)

-- a memory is the word of each number; the memory that an operation leaves, which makes another
-- word of the one that it found
abbrev pub memory_left : List Operation → (ℕ → ℕ → ℕ) → ℕ → (ℕ → ℕ) → ℕ → ℕ
memory_left ops makes x memory w =
    if (operation_at ops x).word == w then makes x (memory w) else memory w

-- the memory that the first operations of an order leave, one after the other
abbrev pub memory_after : List Operation → (ℕ → ℕ → ℕ) → (ℕ → ℕ) → List ℕ → ℕ → ℕ → ℕ
memory_after ops makes opening order zero = opening
memory_after ops makes opening order (suc k) =
    memory_left ops makes (slice_index order k) (memory_after ops makes opening order k)

-- the word that an operation finds there
abbrev pub word_in_turn : List Operation → (ℕ → ℕ → ℕ) → (ℕ → ℕ) → List ℕ → ℕ → ℕ
word_in_turn ops makes opening order k =
    memory_after ops makes opening order k (operation_at ops (slice_index order k)).word

-- a write stands behind that of a place in its word's order
pub record IsNextWrite (ops : List Operation) (writes : List ℕ) (p x : ℕ) : Type 0 where
  pub write : is_write (operation_at ops x).kind ≡ true
  pub next : p + 1 ≡ (operation_at ops x).place
  pub word : (operation_at ops (slice_index writes p)).word ≡ (operation_at ops x).word

-- an operation finds what a write left: a load, and a write that isn't its word's first
abbrev pub FindsWrite : List Operation → List ℕ → ℕ → Type 0
FindsWrite ops writes x =
    (is_load (operation_at ops x).kind ≡ true) ⊎ ((p : ℕ) × IsNextWrite ops writes p x)

-- the words that operations find, by the order of each word's writes: a load what its source left,
-- and a write what the write before it left. The first write of a word leaves the same whatever it
-- found, and what does not write leaves what it found
pub record IsValued (ops : List Operation) (writes : List ℕ) (makes : ℕ → ℕ → ℕ)
    (found : ℕ → ℕ) : Type 0
  where
    pub leaves : (x : ℕ) → x < length ops → is_write (operation_at ops x).kind ≡ false
        → (w : ℕ) → makes x w ≡ w
    pub reads : (x : ℕ) → x < length ops → is_load (operation_at ops x).kind ≡ true
        → found x ≡ makes (source_at ops writes x) (found (source_at ops writes x))
    pub follows : (x p : ℕ) → x < length ops → IsNextWrite ops writes p x
        → found x ≡ makes (slice_index writes p) (found (slice_index writes p))
    pub begins : (x : ℕ) → x < length ops → is_write (operation_at ops x).kind ≡ true
        → ((p : ℕ) → IsNextWrite ops writes p x → ⊥)
        → (v w : ℕ) → makes x v ≡ makes x w
