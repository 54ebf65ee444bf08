-- What laws of RISC-V's memory model say of logs.
use Rattle.std.specs.Prelude.{◌≡◌, ℕ, ◌<◌, true, List, length}
use Rattle.memory_models.specs.declared.kinds.Kind.TheVariants.{Fence}
use Rattle.memory_models.specs.declared.kinds.Operation.{Operation}
use Rattle.memory_models.specs.Trace.{uses_word, operation_at}
use Rattle.weak_models.specs.declared.notes.Note.{Note}
use Rattle.weak_models.specs.declared.notes.Dependency.{Dependency}
use Rattle.weak_models.specs.Notes.{note_at, is_rcsc, dependency_at}

-- no operation is a fence
abbrev pub HasNoFences : List Operation → Type 0
HasNoFences ops = (x : ℕ) → (operation_at ops x).kind ≡ Fence → ⊥

-- each operation on a word has an RCsc annotation
abbrev pub AreAllRcsc : List Note → List Operation → Type 0
AreAllRcsc notes ops =
    (x : ℕ) → x < length ops → uses_word (operation_at ops x).kind ≡ true
    → is_rcsc (note_at notes x) ≡ true

-- each dependency of a list is one of another
abbrev pub AreListedIn : List Dependency → List Dependency → Type 0
AreListedIn fewer more =
    (k : ℕ) → k < length fewer
    → (j : ℕ) × (j < length more) × (dependency_at more j ≡ dependency_at fewer k)
