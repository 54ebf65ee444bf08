-- Where logs have an order of RISC-V's memory model exactly if they have one of another model. The
-- RISC-V Instruction Set Manual, volume I, chapters RVWMO Memory Consistency Model and Ztso.
use Rattle.std.specs.Prelude.{◌≡◌, ℕ, ◌<◌, true, false, List, length, Some, None}
use Rattle.memory_models.specs.declared.kinds.Kind.{Kind}
use Rattle.memory_models.specs.declared.kinds.Kind.TheVariants.{Load, Store, Atomic, Fence}
use Rattle.memory_models.specs.declared.kinds.Operation.{Operation}
use Rattle.memory_models.specs.declared.kinds.Rule.{Rule}
use Rattle.memory_models.specs.Trace.{operation_at, IsOwn}
use Rattle.memory_models.specs.Order.{IsMemoryOrder}
use Rattle.weak_models.specs.declared.notes.FenceOrder.TheVariants.{Sets}
use Rattle.weak_models.specs.declared.notes.Note.{Note}
use Rattle.weak_models.specs.declared.notes.Dependency.{Dependency}
use Rattle.weak_models.specs.Notes.{note_at, all_accesses, reads, is_rcsc, is_conditional}
use Rattle.weak_models.specs.Notes.{dependency_at}
use Rattle.weak_models.specs.Preserved.{IsSameWordStore, IsAtomicSource}
use Rattle.weak_models.specs.Order.{IsBehindPair, ArePairsAtomic, IsRvwmo}

-- there is an order of a model by rules
abbrev pub HasOrder : List Rule → List Operation → List ℕ → Type 0
HasOrder rules ops writes = (turn : ℕ → ℕ) × IsMemoryOrder rules ops writes turn

-- there is one of RISC-V's model
abbrev pub HasRvwmoOrder : List Note → List Dependency → List Operation → List ℕ → Type 0
HasRvwmoOrder notes dependencies ops writes =
    (turn : ℕ → ℕ) × IsRvwmo notes dependencies ops writes turn

-- no operation is a store conditional
abbrev pub HasNoPairs : List Note → Type 0
HasNoPairs notes = (x : ℕ) → (note_at notes x).pair ≡ None

-- each store conditional is a store on the word of what it is paired with
abbrev pub ArePairsOnOne : List Note → List Operation → Type 0
ArePairsOnOne notes ops =
    (reserved w : ℕ) → w < length ops → (note_at notes w).pair ≡ Some reserved
    → IsSameWordStore ops reserved w

-- the atomicity axiom, of the log alone: in its word's order a store conditional comes before each
-- write of another processor behind what its load reserved read
abbrev pub ArePairsAtomicInWords : List Note → List Operation → Type 0
ArePairsAtomicInWords notes ops =
    (w s : ℕ) → w < length ops → s < length ops → IsBehindPair notes ops w s
    → (operation_at ops w).place < (operation_at ops s).place

-- no load comes before a store conditional of its processor that it reads from
abbrev pub ForwardsNoConditionals : List Note → List Operation → List ℕ → (ℕ → ℕ) → Type 0
ForwardsNoConditionals notes ops writes turn =
    (x y : ℕ) → y < length ops → IsOwn ops x y → is_conditional (note_at notes x).pair ≡ true
    → IsAtomicSource notes ops writes x y → turn x < turn y

-- what store conditionals ask of an order of a model that takes them for stores
pub record AreConditionalsKept (notes : List Note) (ops : List Operation) (writes : List ℕ)
    (turn : ℕ → ℕ) : Type 0
  where
    pub one : ArePairsOnOne notes ops
    pub atomic : ArePairsAtomic notes ops turn
    pub forward : ForwardsNoConditionals notes ops writes turn

-- there is an order of a model by rules with such store conditionals
abbrev pub HasOrderWithPairs : List Rule → List Note → List Operation → List ℕ → Type 0
HasOrderWithPairs rules notes ops writes =
    (turn : ℕ → ℕ) × IsMemoryOrder rules ops writes turn
    × AreConditionalsKept notes ops writes turn

-- no operation has a release annotation
abbrev pub HasNoRelease : List Note → Type 0
HasNoRelease notes = (x : ℕ) → (note_at notes x).release ≡ false

-- no operation has an annotation
pub record HasNoAnnotations (notes : List Note) : Type 0 where
  pub acquire : (x : ℕ) → (note_at notes x).acquire ≡ false
  pub release : HasNoRelease notes

-- no store has an acquire annotation
abbrev pub HasNoAcquireOnStores : List Note → List Operation → Type 0
HasNoAcquireOnStores notes ops =
    (x : ℕ) → x < length ops → (operation_at ops x).kind ≡ Store
    → (note_at notes x).acquire ≡ false

-- no load has a release annotation, and no store one that is RCsc
pub record AreReleasesOfStores (notes : List Note) (ops : List Operation) : Type 0 where
  pub load : (x : ℕ) → x < length ops → (operation_at ops x).kind ≡ Load
      → (note_at notes x).release ≡ false
  pub store : (x : ℕ) → x < length ops → (operation_at ops x).kind ≡ Store
      → is_rcsc (note_at notes x) ≡ false

-- each dependency is on an operation that reads
abbrev pub AreOnReads : List Dependency → List Operation → Type 0
AreOnReads dependencies ops =
    (k : ℕ) → k < length dependencies
    → reads (operation_at ops (dependency_at dependencies k).on).kind ≡ true

-- Ztso's annotations of a kind: acquire of loads, release-RCpc of stores, both of atomics; and a
-- fence keeps all accesses
abbrev pub IsZtsoNote : Kind → Note → Type 0
IsZtsoNote Load note = (note.acquire ≡ true) × (note.release ≡ false)
IsZtsoNote Store note = (note.acquire ≡ false) × (note.release ≡ true) × (note.rcpc ≡ true)
IsZtsoNote Atomic note = (note.acquire ≡ true) × (note.release ≡ true)
IsZtsoNote Fence note = note.fence ≡ Sets all_accesses all_accesses

-- all operations have them
abbrev pub AreZtso : List Note → List Operation → Type 0
AreZtso notes ops =
    (x : ℕ) → x < length ops → IsZtsoNote (operation_at ops x).kind (note_at notes x)
