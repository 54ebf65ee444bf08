-- Preserved program order, rule by rule. The RISC-V Instruction Set Manual, volume I, chapter RVWMO
-- Memory Consistency Model, section Preserved Program Order; the numbers are the manual's.
use Rattle.std.specs.Prelude.{◌≡◌, ◌⊎◌, ℕ, ◌+◌, ◌-◌, ◌<◌, if◌then◌else◌, ◌||◌, not, Bool, true, false}
use Rattle.std.specs.Prelude.{List, slice_index, Some}
use Rattle.memory_models.specs.declared.kinds.Kind.TheVariants.{Atomic, Fence}
use Rattle.memory_models.specs.declared.kinds.Operation.{Operation}
use Rattle.memory_models.specs.Trace.{is_load, is_write, uses_word, operation_at, IsOwn}
use Rattle.weak_models.specs.declared.notes.Note.{Note}
use Rattle.weak_models.specs.declared.notes.Dependency.{Dependency}
use Rattle.weak_models.specs.declared.notes.DependencyKind.{DependencyKind}
use Rattle.weak_models.specs.declared.notes.DependencyKind.TheVariants.{Address, Data, Control}
use Rattle.weak_models.specs.declared.verdict.PreservedRule.{PreservedRule}
use Rattle.weak_models.specs.declared.verdict.PreservedRule.TheVariants as by
use Rattle.weak_models.specs.Notes.{note_at, reads, orders, is_rcsc, is_conditional, DependsWithin}

-- the place of the write that an operation read: of an atomic the one before its own
abbrev pub read_place : Operation → ℕ
read_place op = if is_load op.kind then op.place else op.place - 1

-- the write that an operation read; of an atomic that is its word's first, none on its word but
-- itself
abbrev pub read_at : List Operation → List ℕ → ℕ → ℕ
read_at ops writes x = slice_index writes (read_place (operation_at ops x))

-- an operation has a dependency on another
abbrev pub DependsOn : List Dependency → DependencyKind → ℕ → ℕ → Type 0
DependsOn dependencies kind x y = DependsWithin dependencies kind x y (y + 1)

-- 1: the second is a store, on the same word
pub record IsSameWordStore (ops : List Operation) (x y : ℕ) : Type 0 where
  pub store : is_write (operation_at ops y).kind ≡ true
  pub word : (operation_at ops x).word ≡ (operation_at ops y).word

-- an operation is a store on the word of another
pub record IsStoreOn (ops : List Operation) (store y : ℕ) : Type 0 where
  pub is : is_write (operation_at ops store).kind ≡ true
  pub word : (operation_at ops store).word ≡ (operation_at ops y).word

-- a store on the second's word stands between two operations
pub record HasStoreBetween (ops : List Operation) (x y : ℕ) : Type 0 where
  pub store : ℕ
  pub behind : x < store
  pub before : store < y
  pub is : IsStoreOn ops store y

-- 2: loads on one word with no store on it between them, that read different writes
pub record AreDifferentReads (ops : List Operation) (writes : List ℕ) (x y : ℕ) : Type 0 where
  pub first : reads (operation_at ops x).kind ≡ true
  pub second : reads (operation_at ops y).kind ≡ true
  pub word : (operation_at ops x).word ≡ (operation_at ops y).word
  pub apart : read_at ops writes x ≡ read_at ops writes y → ⊥
  pub none : HasStoreBetween ops x y → ⊥

-- 3: the second is a load that reads what the first wrote, an atomic or a store conditional
pub record IsAtomicSource (notes : List Note) (ops : List Operation) (writes : List ℕ) (x y : ℕ) :
    Type 0
  where
    pub atomic : ((operation_at ops x).kind ≡ Atomic)
        ⊎ (is_conditional (note_at notes x).pair ≡ true)
    pub load : reads (operation_at ops y).kind ≡ true
    pub word : (operation_at ops x).word ≡ (operation_at ops y).word
    pub source : read_at ops writes y ≡ x

-- an operation is a fence that orders one before another
pub record Orders (notes : List Note) (ops : List Operation) (fence x y : ℕ) : Type 0 where
  pub is : (operation_at ops fence).kind ≡ Fence
  pub orders : orders (note_at notes fence).fence (operation_at ops x).kind (operation_at ops y).kind
      ≡ true

-- 4: a fence between them orders the first before the second
pub record IsFenced (notes : List Note) (ops : List Operation) (x y : ℕ) : Type 0 where
  pub fence : ℕ
  pub behind : x < fence
  pub before : fence < y
  pub orders : Orders notes ops fence x y

-- 11: the second is a store behind a branch that depends on the first
pub record IsBehindBranch (dependencies : List Dependency) (ops : List Operation) (x y : ℕ) : Type 0
  where
    pub depends : DependsWithin dependencies Control x (x + 1) (y + 1)
    pub store : is_write (operation_at ops y).kind ≡ true

-- 12: the second is a load that reads what a store between them wrote, which has an address or data
-- dependency on the first
pub record IsThroughStore (dependencies : List Dependency) (ops : List Operation) (writes : List ℕ)
    (x y : ℕ) : Type 0
  where
    pub behind : x < read_at ops writes y
    pub before : read_at ops writes y < y
    pub depends : DependsOn dependencies Address x (read_at ops writes y)
        ⊎ DependsOn dependencies Data x (read_at ops writes y)
    pub load : reads (operation_at ops y).kind ≡ true
    pub store : is_write (operation_at ops (read_at ops writes y)).kind ≡ true
    pub word : (operation_at ops (read_at ops writes y)).word ≡ (operation_at ops y).word

-- 13: the second is a store, and an operation between them has an address dependency on the first
pub record IsBehindAddress (dependencies : List Dependency) (ops : List Operation) (x y : ℕ) : Type 0
  where
    pub depends : DependsWithin dependencies Address x (x + 1) y
    pub store : is_write (operation_at ops y).kind ≡ true

-- a rule keeps two operations in their order; 5: the first has an acquire; 6: the second a release;
-- 7: both have RCsc annotations; 8: they are paired; 9 and 10: the second depends on the first
abbrev pub KeepsBy : List Note → List Dependency → List Operation → List ℕ → ℕ → ℕ → PreservedRule
    → Type 0
KeepsBy notes dependencies ops writes x y by.SameWordStore = IsSameWordStore ops x y
KeepsBy notes dependencies ops writes x y by.DifferentReads = AreDifferentReads ops writes x y
KeepsBy notes dependencies ops writes x y by.AtomicSource = IsAtomicSource notes ops writes x y
KeepsBy notes dependencies ops writes x y by.Fenced = IsFenced notes ops x y
KeepsBy notes dependencies ops writes x y by.Acquire = (note_at notes x).acquire ≡ true
KeepsBy notes dependencies ops writes x y by.Release = (note_at notes y).release ≡ true
KeepsBy notes dependencies ops writes x y by.BothRcsc =
    (is_rcsc (note_at notes x) ≡ true) × (is_rcsc (note_at notes y) ≡ true)
KeepsBy notes dependencies ops writes x y by.Paired = (note_at notes y).pair ≡ Some x
KeepsBy notes dependencies ops writes x y by.AddressDependency = DependsOn dependencies Address x y
KeepsBy notes dependencies ops writes x y by.DataDependency = DependsOn dependencies Data x y
KeepsBy notes dependencies ops writes x y by.ControlDependency = IsBehindBranch dependencies ops x y
KeepsBy notes dependencies ops writes x y by.ThroughStore =
    IsThroughStore dependencies ops writes x y
KeepsBy notes dependencies ops writes x y by.BehindAddress = IsBehindAddress dependencies ops x y

-- the manual's headings: orderings of overlapping addresses, explicit synchronization, and
-- dependencies of syntax and of the pipeline
abbrev pub is_overlapping : PreservedRule → Bool
is_overlapping by.SameWordStore = true
is_overlapping by.DifferentReads = true
is_overlapping by.AtomicSource = true
is_overlapping by.Fenced = false
is_overlapping by.Acquire = false
is_overlapping by.Release = false
is_overlapping by.BothRcsc = false
is_overlapping by.Paired = false
is_overlapping by.AddressDependency = false
is_overlapping by.DataDependency = false
is_overlapping by.ControlDependency = false
is_overlapping by.ThroughStore = false
is_overlapping by.BehindAddress = false

abbrev pub is_synchronization : PreservedRule → Bool
is_synchronization by.SameWordStore = false
is_synchronization by.DifferentReads = false
is_synchronization by.AtomicSource = false
is_synchronization by.Fenced = true
is_synchronization by.Acquire = true
is_synchronization by.Release = true
is_synchronization by.BothRcsc = true
is_synchronization by.Paired = true
is_synchronization by.AddressDependency = false
is_synchronization by.DataDependency = false
is_synchronization by.ControlDependency = false
is_synchronization by.ThroughStore = false
is_synchronization by.BehindAddress = false

abbrev pub is_dependency : PreservedRule → Bool
is_dependency rule = not (is_overlapping rule || is_synchronization rule)

-- no rule under a heading keeps two operations in their order
abbrev pub NoneKeeps : (PreservedRule → Bool) → List Note → List Dependency → List Operation
    → List ℕ → ℕ → ℕ → Type 0
NoneKeeps heading notes dependencies ops writes x y =
    (rule : PreservedRule) → heading rule ≡ true
    → KeepsBy notes dependencies ops writes x y rule → ⊥

-- preserved program order, by a rule: of two operations on words, of one processor
pub record IsPreservedBy (notes : List Note) (dependencies : List Dependency) (ops : List Operation)
    (writes : List ℕ) (x y : ℕ) (rule : PreservedRule) : Type 0
  where
    pub own : IsOwn ops x y
    pub first : uses_word (operation_at ops x).kind ≡ true
    pub second : uses_word (operation_at ops y).kind ≡ true
    pub keeps : KeepsBy notes dependencies ops writes x y rule

-- preserved program order
abbrev pub IsPreserved : List Note → List Dependency → List Operation → List ℕ → ℕ → ℕ → Type 0
IsPreserved notes dependencies ops writes x y =
    (rule : PreservedRule) × IsPreservedBy notes dependencies ops writes x y rule
