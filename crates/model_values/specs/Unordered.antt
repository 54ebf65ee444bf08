-- A trace that gives each load's source, and no order of each word's writes.
-- Hangal, Vahia, Manovit, Lu and Narayanan, TSOtool: a program for verifying memory systems using
-- the memory consistency model, 2004.
use Rattle.std.specs.Prelude.{◌≡◌, ◌≢◌, ℕ, ◌+◌, ◌<◌, ◌≤◌, true, List, length, slice_index}
use Rattle.memory_models.specs.declared.kinds.Kind.TheVariants.{Atomic, Fence}
use Rattle.memory_models.specs.declared.kinds.Operation.{Operation}
use Rattle.memory_models.specs.declared.kinds.Rule.{Rule}
use Rattle.memory_models.specs.Order.{IsMemoryOrder}
use Rattle.memory_models.specs.Trace.{is_load, is_write, operation_at, source_at, IsMemoryTrace}
use Rattle.model_values.specs.declared.question.Unordered.{Unordered}

-- an operation keeps its processor, its kind and its word; a load read its source, an atomic is the
-- next write behind its own, and a fence has no place
pub record IsToldAt (ops : List Operation) (sources : List ℕ) (placed : List Operation)
    (writes : List ℕ) (x : ℕ) : Type 0
  where
    pub processor : (operation_at placed x).processor ≡ (operation_at ops x).processor
    pub kind : (operation_at placed x).kind ≡ (operation_at ops x).kind
    pub word : (operation_at placed x).word ≡ (operation_at ops x).word
    pub read : is_load (operation_at ops x).kind ≡ true
        → source_at placed writes x ≡ slice_index sources x
    pub next : (operation_at ops x).kind ≡ Atomic
        → (operation_at placed x).place
        ≡ (operation_at placed (slice_index sources x)).place + 1
    pub fence : (operation_at ops x).kind ≡ Fence → (operation_at placed x).place ≡ 0

-- an opening store, and another write on its word
pub record IsOpeningOf (openings : ℕ) (ops : List Operation) (x y : ℕ) : Type 0 where
  pub opening : x < openings
  pub other : x ≢ y
  pub first : is_write (operation_at ops x).kind ≡ true
  pub second : is_write (operation_at ops y).kind ≡ true
  pub word : (operation_at ops x).word ≡ (operation_at ops y).word

-- a closing load, and a write on its word
pub record IsClosingOf (closing : ℕ) (ops : List Operation) (x y : ℕ) : Type 0 where
  pub closes : closing ≤ x
  pub load : is_load (operation_at ops x).kind ≡ true
  pub write : is_write (operation_at ops y).kind ≡ true
  pub word : (operation_at ops x).word ≡ (operation_at ops y).word

-- an order of each word's writes that begins with the opening store and keeps the sources; a
-- closing load stands at the last write of its word, so that write is its source
pub record IsPlacing (ops : List Operation) (sources : List ℕ) (words openings closing : ℕ)
    (placed : List Operation) (writes : List ℕ) : Type 0
  where
    pub size : length placed ≡ length ops
    pub trace : IsMemoryTrace words placed writes
    pub told : (x : ℕ) → x < length ops → IsToldAt ops sources placed writes x
    pub opened : (x y : ℕ) → x < length ops → y < length ops → IsOpeningOf openings ops x y
        → (operation_at placed x).place < (operation_at placed y).place
    pub closed : (x y : ℕ) → x < length ops → y < length ops → IsClosingOf closing ops x y
        → (operation_at placed y).place ≤ (operation_at placed x).place

-- an order of all operations that explains the trace with some order of each word's writes
pub record ExplainsLog (rules : List Rule) (ops : List Operation) (sources : List ℕ)
    (words openings closing : ℕ) (turn : ℕ → ℕ) : Type 0
  where
    pub placed : List Operation
    pub writes : List ℕ
    pub is : IsPlacing ops sources words openings closing placed writes
    pub order : IsMemoryOrder rules placed writes turn

-- an order that explains the trace of a question
abbrev pub IsOrderOf : Unordered → (ℕ → ℕ) → Type 0
IsOrderOf q turn =
    ExplainsLog q.rules.now q.operations.now q.sources.now q.words q.openings q.closing
    turn
