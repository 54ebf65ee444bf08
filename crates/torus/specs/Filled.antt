-- Lists of three.
use Rattle.std.specs.Prelude.{ℕ, List, [], ◌∷◌, ◌++◌, take}

-- the list, and after it as many x as make it three
abbrev pub filled : ℕ → List ℕ → List ℕ
filled x xs = take 3 (xs ++ x ∷ x ∷ x ∷ [])
