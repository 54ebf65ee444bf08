-- The memory trace that accesses make: each word's writes stand in the order of their services, and
-- a load reads the last one before it.
use Rattle.std.specs.Prelude.{◌≡◌, ◌⊎◌, ℕ, ◌-◌, ◌<◌, ◌≤◌, true, if◌then◌else◌, List, length, slice_index}
use Rattle.std.specs.Prelude.{slice_index_or}
use Rattle.memory_models.specs.declared.kinds.Kind.TheVariants.{Fence}
use Rattle.memory_models.specs.declared.kinds.Operation.{Operation}
use Rattle.memory_models.specs.Trace.{is_load, is_write, operation_at, source_at}
use Rattle.core_models.specs.Accesses.{Access}

-- the access of a place
abbrev pub access_at : List Access → ℕ → Access
access_at accesses x = slice_index_or accesses x
    (record { processor = 0; index = 0; kind = Fence; word = 0; served = 0 })

-- an operation of a trace is an access
pub record IsAccess (o : Operation) (a : Access) : Type 0 where
  pub processor : o.processor ≡ a.processor
  pub kind : o.kind ≡ a.kind
  pub word : o.word ≡ a.word

-- one write stands before another in the list of all words' writes: that of a lower word, or of the
-- same word and served before
abbrev pub ComesBefore : Access → Access → Type 0
ComesBefore a b = (a.word < b.word) ⊎ ((a.word ≡ b.word) × (a.served < b.served))

-- a write on an access's word that is served before it
pub record IsWriteBefore (w a : Access) : Type 0 where
  pub write : is_write w.kind ≡ true
  pub word : w.word ≡ a.word
  pub before : w.served < a.served

-- the trace of some accesses: an operation for each, each word's writes in the order of their
-- services, and the write that a load read is the last one on its word before it
pub record IsTraceOf (accesses : List Access) (ops : List Operation) (writes : List ℕ) : Type 0
  where
    pub count : length ops ≡ length accesses
    pub each : (x : ℕ) → x < length accesses → IsAccess (operation_at ops x) (access_at accesses x)
    pub low : (q : ℕ) → q < length writes → slice_index writes q < length accesses
    pub writes_are : (q : ℕ) → q < length writes
        → is_write (access_at accesses (slice_index writes q)).kind ≡ true
    pub ordered : (q r : ℕ) → q < r → r < length writes
        → ComesBefore (access_at accesses (slice_index writes q))
        (access_at accesses (slice_index writes r))
    pub written : (x : ℕ) → x < length accesses → is_write (access_at accesses x).kind ≡ true
        → ((operation_at ops x).place < length writes) × (source_at ops writes x ≡ x)
    pub place : (x : ℕ) → x < length accesses → is_load (access_at accesses x).kind ≡ true
        → (operation_at ops x).place < length writes
    pub source : (x : ℕ) → x < length accesses → is_load (access_at accesses x).kind ≡ true
        → IsWriteBefore (access_at accesses (source_at ops writes x)) (access_at accesses x)
    pub last : (x w : ℕ) → x < length accesses → w < length accesses
        → is_load (access_at accesses x).kind ≡ true
        → IsWriteBefore (access_at accesses w) (access_at accesses x)
        → (access_at accesses w).served ≤ (access_at accesses (source_at ops writes x)).served

-- the write that an operation of a trace finds: a load the one that it read, and a write the one
-- before it in its word's order
abbrev pub found_at : List Operation → List ℕ → ℕ → ℕ
found_at ops writes x =
    if is_load (operation_at ops x).kind then source_at ops writes x
    else slice_index writes ((operation_at ops x).place - 1)

-- an access is the last write on another one's word that is served before that one
pub record IsLastWriteBefore (accesses : List Access) (w x : ℕ) : Type 0 where
  pub low : w < length accesses
  pub before : IsWriteBefore (access_at accesses w) (access_at accesses x)
  pub last : (v : ℕ) → v < length accesses
      → IsWriteBefore (access_at accesses v) (access_at accesses x)
      → (access_at accesses v).served ≤ (access_at accesses w).served

-- an access is the last write on another one's word that has its turn before that one
pub record IsLastWriteInTurn (accesses : List Access) (turn : ℕ → ℕ) (w x : ℕ) : Type 0 where
  pub low : w < length accesses
  pub write : is_write (access_at accesses w).kind ≡ true
  pub word : (access_at accesses w).word ≡ (access_at accesses x).word
  pub before : turn w < turn x
  pub last : (v : ℕ) → v < length accesses → is_write (access_at accesses v).kind ≡ true
      → (access_at accesses v).word ≡ (access_at accesses x).word → turn v < turn x
      → turn v ≤ turn w
