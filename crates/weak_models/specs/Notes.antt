-- What a log says of operations beside their kinds: annotations, pairs, fences and dependencies.
-- The RISC-V Instruction Set Manual, volume I, chapter RVWMO Memory Consistency Model.
use Rattle.std.specs.Prelude.{◌≡◌, ℕ, ◌<◌, ◌≤◌, ◌&&◌, ◌||◌, not, Bool, true, false, List, length}
use Rattle.std.specs.Prelude.{slice_index_or, Option, Some, None}
use Rattle.memory_models.specs.declared.kinds.Kind.{Kind}
use Rattle.memory_models.specs.declared.kinds.Kind.TheVariants.{Load, Store, Atomic, Fence}
use Rattle.memory_models.specs.Trace.{is_write}
use Rattle.weak_models.specs.declared.notes.Accesses.{Accesses}
use Rattle.weak_models.specs.declared.notes.FenceOrder.{FenceOrder}
use Rattle.weak_models.specs.declared.notes.FenceOrder.TheVariants.{Sets, Tso}
use Rattle.weak_models.specs.declared.notes.Note.{Note}
use Rattle.weak_models.specs.declared.notes.Dependency.{Dependency}
use Rattle.weak_models.specs.declared.notes.DependencyKind.{DependencyKind}
use Rattle.weak_models.specs.declared.notes.DependencyKind.TheVariants.{Control}

-- all accesses
abbrev pub all_accesses : Accesses
all_accesses = record { reads = true; writes = true }

-- no annotation, no pair, and a fence of all accesses
abbrev pub bare_note : Note
bare_note = record {
  acquire = false;
  release = false;
  rcpc = false;
  pair = None;
  fence = Sets all_accesses all_accesses;
}

-- the note of an operation
abbrev pub note_at : List Note → ℕ → Note
note_at notes x = slice_index_or notes x bare_note

-- whether a kind reads its word: loads and atomics do
abbrev pub reads : Kind → Bool
reads Load = true
reads Store = false
reads Atomic = true
reads Fence = false

-- whether a kind is among some accesses: an atomic is if either of its two is
abbrev pub is_among : Accesses → Kind → Bool
is_among accesses kind = (accesses.reads && reads kind) || (accesses.writes && is_write kind)

-- whether a fence keeps one kind before another: `fence tso` keeps what reads before all accesses,
-- and what writes before what writes
abbrev pub orders : FenceOrder → Kind → Kind → Bool
orders (Sets before behind) first second = is_among before first && is_among behind second
orders Tso first second =
    (reads first && (reads second || is_write second)) || (is_write first && is_write second)

-- whether a note has an RCsc annotation, which the bits aq and rl of an instruction are
abbrev pub is_rcsc : Note → Bool
is_rcsc note = (note.acquire || note.release) && not note.rcpc

-- whether there is a pair: only a store conditional has one
abbrev pub is_conditional : Option ℕ → Bool
is_conditional (Some reserved) = true
is_conditional None = false

-- the dependency at a place
abbrev pub dependency_at : List Dependency → ℕ → Dependency
dependency_at dependencies k =
    slice_index_or dependencies k (record { on = 0; operation = 0; kind = Control })

-- a dependency is of a kind, on an operation, and of one of a range
pub record IsWithin (dependency : Dependency) (kind : DependencyKind) (on low high : ℕ) : Type 0 where
  pub is : dependency.kind ≡ kind
  pub first : dependency.on ≡ on
  pub above : low ≤ dependency.operation
  pub below : dependency.operation < high

-- an operation of a range depends on another in some way
pub record DependsWithin (dependencies : List Dependency) (kind : DependencyKind) (on low high : ℕ) :
    Type 0
  where
    pub which : ℕ
    pub listed : which < length dependencies
    pub within : IsWithin (dependency_at dependencies which) kind on low high
