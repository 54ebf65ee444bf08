-- What becomes of tries to leave out items of a part.
use Rattle.std.specs.Prelude.{◌≡◌, ◌<◌, ℕ, List, Bool, Option}
use Rattle.state_search.specs.declared.smallest.Passed.{Passed}
use Rattle.state_search.specs.declared.smallest.Passed.TheVariants as passed
use Rattle.state_search.specs.declared.smallest.Tried.{Tried}
use Rattle.state_search.specs.declared.smallest.Tried.TheVariants as tried
use Rattle.state_search.specs.Parts.{AreClosed, IsMinimal, IsNeeded, without}

-- what becomes of a try to leave out an item, by how many answers were left before it and are
abbrev pub IsTried : {A : Type 0} → List (Option ℕ) → (List Bool → Type 0) → (List Bool → Type 0)
    → List Bool → ℕ → ℕ → ℕ → Tried A → Type 0
IsTried sources breaks stands kept k before left (tried.Less rest) =
    (rest.items ≡ without kept k) × AreClosed sources rest.items × breaks rest.items
    × (left < before)
IsTried sources breaks stands kept k before left tried.Needed = IsNeeded sources stands kept k
IsTried sources breaks stands kept k before left tried.Spent = left ≡ 0

-- what becomes of tries to leave out each item once
abbrev pub IsPassed : List (Option ℕ) → (List Bool → Type 0) → List Bool → ℕ → ℕ → Passed → Type 0
IsPassed sources stands kept before left passed.Less = left < before
IsPassed sources stands kept before left passed.Needed = IsMinimal sources stands kept
IsPassed sources stands kept before left passed.Spent = left ≡ 0
