-- Orders of RISC-V's memory model: preserved program order, the load value axiom and the atomicity
-- axiom. The RISC-V Instruction Set Manual, volume I, chapter RVWMO Memory Consistency Model, section
-- Memory Model Axioms.
use Rattle.std.specs.Prelude.{◌≡◌, ◌⊎◌, ℕ, ◌<◌, true, List, length, Some}
use Rattle.memory_models.specs.declared.kinds.Operation.{Operation}
use Rattle.memory_models.specs.Trace.{is_load, is_write, operation_at, source_at, IsOwn, AreOnOne}
use Rattle.weak_models.specs.declared.notes.Note.{Note}
use Rattle.weak_models.specs.declared.notes.Dependency.{Dependency}
use Rattle.weak_models.specs.Notes.{note_at}
use Rattle.weak_models.specs.Preserved.{IsPreserved}

-- one order of all operations, as the turn of each: it keeps some pairs and each word's order of
-- writes, and the write that a load read is the last one on its word of those that are before the
-- load in this order or in its processor's program (the load value axiom)
pub record IsOrderKeeping (keeps : ℕ → ℕ → Type 0) (ops : List Operation) (writes : List ℕ)
    (turn : ℕ → ℕ) : Type 0
  where
    pub apart : (x y : ℕ) → x < length ops → y < length ops → turn x ≡ turn y → x ≡ y
    pub program : (x y : ℕ) → y < length ops → keeps x y → turn x < turn y
    pub word_order : (x y : ℕ) → x < length ops → y < length ops
        → is_write (operation_at ops x).kind ≡ true
        → is_write (operation_at ops y).kind ≡ true → AreOnOne ops x y
        → (operation_at ops x).place < (operation_at ops y).place
        → turn x < turn y
    pub source : (x : ℕ) → x < length ops → is_load (operation_at ops x).kind ≡ true
        → (turn (source_at ops writes x) < turn x)
        ⊎ IsOwn ops (source_at ops writes x) x
    pub newest : (x w : ℕ) → x < length ops → w < length ops
        → is_load (operation_at ops x).kind ≡ true
        → is_write (operation_at ops w).kind ≡ true → AreOnOne ops x w
        → (operation_at ops x).place < (operation_at ops w).place
        → (turn x < turn w) × (IsOwn ops w x → ⊥)

-- a store conditional, and a write of another processor on its word, behind what its load reserved
-- read in the word's order
pub record IsBehindPair (notes : List Note) (ops : List Operation) (w s : ℕ) : Type 0 where
  pub reserved : ℕ
  pub pair : (note_at notes w).pair ≡ Some reserved
  pub write : is_write (operation_at ops s).kind ≡ true
  pub one : AreOnOne ops s w
  pub other : (operation_at ops s).processor ≡ (operation_at ops w).processor → ⊥
  pub behind : (operation_at ops reserved).place < (operation_at ops s).place

-- no write of another processor stands between what a load reserved read and its store conditional
-- (the atomicity axiom)
abbrev pub ArePairsAtomic : List Note → List Operation → (ℕ → ℕ) → Type 0
ArePairsAtomic notes ops turn =
    (w s : ℕ) → w < length ops → s < length ops → IsBehindPair notes ops w s → turn w < turn s

-- an order of RISC-V's memory model
pub record IsRvwmo (notes : List Note) (dependencies : List Dependency) (ops : List Operation)
    (writes : List ℕ) (turn : ℕ → ℕ) : Type 0
  where
    pub order : IsOrderKeeping (IsPreserved notes dependencies ops writes) ops writes turn
    pub atomic : ArePairsAtomic notes ops turn
