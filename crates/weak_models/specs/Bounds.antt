-- Bounds of turns that preserved program order sets before an operation, and how they go on along a
-- program: what turns have to be looked at for, of each operation once.
use Rattle.std.specs.Prelude.{◌≡◌, ℕ, ◌+◌, ◌<◌, ◌≤◌, true, List, length, slice_index}
use Rattle.std.specs.Prelude.{slice_index_or, Some}
use Rattle.memory_models.specs.declared.kinds.Kind.{Kind}
use Rattle.memory_models.specs.declared.kinds.Kind.TheVariants.{Load, Store, Atomic, Fence}
use Rattle.memory_models.specs.declared.kinds.Operation.{Operation}
use Rattle.memory_models.specs.Trace.{operation_at, uses_word, IsOwn}
use Rattle.weak_models.specs.declared.bounds.Bounds.{Bounds}
use Rattle.weak_models.specs.declared.bounds.ByKind.{ByKind}
use Rattle.weak_models.specs.declared.notes.Dependency.{Dependency}
use Rattle.weak_models.specs.declared.notes.DependencyKind.TheVariants.{Address, Data, Control}
use Rattle.weak_models.specs.declared.notes.FenceOrder.{FenceOrder}
use Rattle.weak_models.specs.declared.notes.Note.{Note}
use Rattle.weak_models.specs.Notes.{note_at, reads, orders, is_rcsc, dependency_at}
use Rattle.weak_models.specs.Preserved.{read_at, IsAtomicSource}

-- the bound for a kind; of a fence none
abbrev pub bound_of : ByKind → Kind → ℕ
bound_of bounds Load = bounds.load
bound_of bounds Store = bounds.store
bound_of bounds Atomic = bounds.atomic
bound_of bounds Fence = 0

-- each bound is at most the other one of its kind
pub record AreUnder (low high : ByKind) : Type 0 where
  pub load : low.load ≤ high.load
  pub store : low.store ≤ high.store
  pub atomic : low.atomic ≤ high.atomic

-- each bound is at most a turn
pub record AreAtMost (bounds : ByKind) (turn : ℕ) : Type 0 where
  pub load : bounds.load ≤ turn
  pub store : bounds.store ≤ turn
  pub atomic : bounds.atomic ≤ turn

-- a turn is below the bounds of all kinds
pub record IsBelowAll (turn : ℕ) (bounds : ByKind) : Type 0 where
  pub load : turn < bounds.load
  pub store : turn < bounds.store
  pub atomic : turn < bounds.atomic

-- a turn is below the bounds of what writes
pub record IsBelowWrites (turn : ℕ) (bounds : ByKind) : Type 0 where
  pub store : turn < bounds.store
  pub atomic : turn < bounds.atomic

-- the bounds of the kinds that a fence orders behind one are no lower than a bound of that
pub record IsAhead (fence : FenceOrder) (first : Kind) (bound : ℕ) (ahead : ByKind) : Type 0 where
  pub load : orders fence first Load ≡ true → bound ≤ ahead.load
  pub store : orders fence first Store ≡ true → bound ≤ ahead.store
  pub atomic : orders fence first Atomic ≡ true → bound ≤ ahead.atomic

-- a fence sets its bounds, for what is before it
pub record IsFenceAhead (fence : FenceOrder) (seen ahead : ByKind) : Type 0 where
  pub load : IsAhead fence Load seen.load ahead
  pub store : IsAhead fence Store seen.store ahead
  pub atomic : IsAhead fence Atomic seen.atomic ahead

-- no bound falls
pub record GoOn (old new : Bounds) : Type 0 where
  pub seen : AreUnder old.seen new.seen
  pub ahead : AreUnder old.ahead new.ahead
  pub rcsc : old.rcsc ≤ new.rcsc

-- bounds go on behind an operation of this kind, note and turn
pub record AreBehind (kind : Kind) (note : Note) (turn : ℕ) (old new : Bounds) : Type 0 where
  pub on : GoOn old new
  pub sees : uses_word kind ≡ true → turn < bound_of new.seen kind
  pub fence : kind ≡ Fence → IsFenceAhead note.fence old.seen new.ahead
  pub acquire : note.acquire ≡ true → IsBelowAll turn new.ahead
  pub annotated : is_rcsc note ≡ true → turn < new.rcsc

-- the turn of an operation of this kind and note is no lower than the bounds before it
pub record IsBehindBounds (kind : Kind) (note : Note) (turn : ℕ) (bounds : Bounds) : Type 0 where
  pub ahead : bound_of bounds.ahead kind ≤ turn
  pub release : note.release ≡ true → AreAtMost bounds.seen turn
  pub rcsc : is_rcsc note ≡ true → bounds.rcsc ≤ turn

-- the bounds before an operation
abbrev pub bounds_at : List Bounds → ℕ → Bounds
bounds_at bounds y = slice_index_or bounds y (record {
  seen = record { load = 0; store = 0; atomic = 0 };
  ahead = record { load = 0; store = 0; atomic = 0 };
  rcsc = 0;
  through = 0;
})

-- an operation reads a write before it in its program, and comes behind it if that is an atomic or a
-- store conditional; and behind what its address or data depends on
pub record IsBehindSource (notes : List Note) (ops : List Operation) (writes turns : List ℕ)
    (bounds : List Bounds) (y : ℕ) : Type 0
  where
    pub atomic : IsAtomicSource notes ops writes (read_at ops writes y) y
        → slice_index turns (read_at ops writes y) < slice_index turns y
    pub through : reads (operation_at ops y).kind ≡ true
        → (bounds_at bounds (read_at ops writes y)).through ≤ slice_index turns y

-- what is looked at of an operation on a word, for the operations of its program before it
pub record IsKeptAt (notes : List Note) (ops : List Operation) (writes turns : List ℕ)
    (bounds : List Bounds) (y : ℕ) : Type 0
  where
    pub behind : IsBehindBounds (operation_at ops y).kind (note_at notes y) (slice_index turns y)
        (bounds_at bounds y)
    pub pair : (reserved : ℕ) → (note_at notes y).pair ≡ Some reserved → reserved < y
        → slice_index turns reserved < slice_index turns y
    pub source : IsOwn ops (read_at ops writes y) y
        → IsBehindSource notes ops writes turns bounds y

-- it holds of each
abbrev pub AreKept : List Note → List Operation → List ℕ → List ℕ → List Bounds → Type 0
AreKept notes ops writes turns bounds =
    (y : ℕ) → y < length ops → uses_word (operation_at ops y).kind ≡ true
    → IsKeptAt notes ops writes turns bounds y

-- bounds go on from an operation to the next one of its program
abbrev pub IsChainedAt : List Note → List Operation → List ℕ → List Bounds → ℕ → Type 0
IsChainedAt notes ops turns bounds y =
    y + 1 < length ops → (operation_at ops y).processor ≡ (operation_at ops (y + 1)).processor
    → AreBehind (operation_at ops y).kind (note_at notes y) (slice_index turns y)
    (bounds_at bounds y) (bounds_at bounds (y + 1))

-- they do from each
abbrev pub AreChained : List Note → List Operation → List ℕ → List Bounds → Type 0
AreChained notes ops turns bounds =
    (y : ℕ) → y < length ops → IsChainedAt notes ops turns bounds y

-- an operation comes behind one that it depends on by its address or data, and so do those that read
-- what it wrote
pub record IsBehindInput (turns : List ℕ) (bounds : List Bounds) (dependency : Dependency) : Type 0
  where
    pub turn : slice_index turns dependency.on < slice_index turns dependency.operation
    pub through : slice_index turns dependency.on
        < (bounds_at bounds dependency.operation).through

-- what is looked at of a dependency
pub record IsDependencyKept (ops : List Operation) (turns : List ℕ) (bounds : List Bounds)
    (dependency : Dependency) : Type 0
  where
    pub address : dependency.kind ≡ Address → IsBehindInput turns bounds dependency
    pub value : dependency.kind ≡ Data → IsBehindInput turns bounds dependency
    pub branch : dependency.kind ≡ Control → IsBelowWrites (slice_index turns dependency.on)
        (bounds_at bounds dependency.operation).ahead
    pub behind : dependency.kind ≡ Address → dependency.operation + 1 < length ops
        → (operation_at ops dependency.operation).processor
        ≡ (operation_at ops (dependency.operation + 1)).processor
        → IsBelowWrites (slice_index turns dependency.on)
        (bounds_at bounds (dependency.operation + 1)).ahead

-- it holds of each dependency between operations
abbrev pub AreDependenciesKept : List Dependency → List Operation → List ℕ → List Bounds → Type 0
AreDependenciesKept dependencies ops turns bounds =
    (k : ℕ) → k < length dependencies → (dependency_at dependencies k).on < length ops
    → (dependency_at dependencies k).operation < length ops
    → IsDependencyKept ops turns bounds (dependency_at dependencies k)
