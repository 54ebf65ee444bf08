-- Parts of some items: of each item whether it is kept.
use Rattle.std.specs.Prelude.{◌≡◌, ◌⊎◌, ℕ, List, Bool, true, false, Option, Some, slice_get, slice_set}
use Rattle.state_search.specs.declared.smallest.Ending.{Ending}
use Rattle.state_search.specs.declared.smallest.Ending.TheVariants.{Minimal, Spent}

-- the item of this number is kept
abbrev pub IsKept : List Bool → ℕ → Type 0
IsKept kept k = slice_get kept k ≡ Some true

-- what one part keeps the other keeps, too
abbrev pub AreWithin : List Bool → List Bool → Type 0
AreWithin part whole = (k : ℕ) → IsKept part k → IsKept whole k

-- with each item that is kept its source is, if it has one
abbrev pub AreClosed : List (Option ℕ) → List Bool → Type 0
AreClosed sources kept =
    (k s : ℕ) → IsKept kept k → slice_get sources k ≡ Some (Some s) → IsKept kept s

-- a part without one of its items
abbrev pub without : List Bool → ℕ → List Bool
without kept k = slice_set kept k false

-- an item can't be left out: another one that is kept lacks its source then, or what is judged stands
abbrev pub IsNeeded : List (Option ℕ) → (List Bool → Type 0) → List Bool → ℕ → Type 0
IsNeeded sources stands kept k =
    (AreClosed sources (without kept k) → ⊥) ⊎ stands (without kept k)

-- no single item that is kept can be left out (Zeller and Hildebrandt, Simplifying and isolating
-- failure-inducing input, IEEE TSE 28(2), 2002: 1-minimal)
abbrev pub IsMinimal : List (Option ℕ) → (List Bool → Type 0) → List Bool → Type 0
IsMinimal sources stands kept = (k : ℕ) → IsKept kept k → IsNeeded sources stands kept k

-- why a part is made no smaller: no item can be left out, or no answers are left to ask for
abbrev pub IsEnding : List (Option ℕ) → (List Bool → Type 0) → List Bool → ℕ → Ending → Type 0
IsEnding sources stands kept left Minimal = IsMinimal sources stands kept
IsEnding sources stands kept left Spent = left ≡ 0
