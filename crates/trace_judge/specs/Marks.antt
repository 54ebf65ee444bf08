-- The nodes on the ways back.
use Rattle.std.specs.Prelude.{◌≡◌, ◌⊎◌, ◌<◌, ℕ, Bool, true, List, Option, Some, slice_get, length}
use Rattle.trace_laws.specs.declared.opened.Node.{Node}
use Rattle.trace_laws.specs.declared.opened.Branch.{Branch}
use Rattle.trace_laws.specs.Configs.{IsIn}
use Rattle.trace_laws.specs.Searches.{Picks}

-- nodes lead back to earlier ones
abbrev pub AreNodes : List Node → Type 0
AreNodes nodes = (i j : ℕ) (node : Node) → slice_get nodes i ≡ Some node → node.before ≡ Some j
    → j < i

-- a node that there is, or none
abbrev pub IsBelow : List Node → Option ℕ → Type 0
IsBelow nodes last = (i : ℕ) → last ≡ Some i → i < length nodes

-- those of a trail are marked too, and no others
pub record AreMarked (old : List Bool) (trail : List ℕ) (new : List Bool) : Type 0 where
  pub marked : (i : ℕ) → IsIn trail i → slice_get new i ≡ Some true
  pub kept : (i : ℕ) → slice_get old i ≡ Some true → slice_get new i ≡ Some true
  pub only : (i : ℕ) → slice_get new i ≡ Some true → (slice_get old i ≡ Some true) ⊎ IsIn trail i

-- one branch of each word is picked, and the nodes on their ways back are marked
abbrev pub ArePicked : ℕ → (ℕ → List Branch) → List Node → List Bool → Type 0
ArePicked words sets nodes marks =
    (pick : ℕ → Branch) × (trails : ℕ → List ℕ) × Picks words sets nodes pick trails marks
