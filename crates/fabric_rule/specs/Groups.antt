-- What a seat owns, and how runs go on from one another.
use Rattle.std.specs.Prelude.{◌≡◌, ◌⊎◌, ℕ, ◌<◌, if◌then◌else◌, List, [], ◌∷◌, ◌++◌, length, nat_lt}
use Rattle.torus.specs.declared.step.Step.{Step}
use Rattle.fabric_rule.specs.Known.{tile_of}
use Rattle.fabric_rule.specs.View.{View}

abbrev pub Owns : List ℕ → ℕ → Type 0
Owns [] t = ⊥
Owns (x ∷ xs) t = (x ≡ t) ⊎ Owns xs t

-- the tile is in one of these groups
abbrev pub In : List (List ℕ) → ℕ → Type 0
In [] t = ⊥
In (g ∷ gs) t = Owns g t ⊎ In gs t

-- no tile is in two of the groups
abbrev pub Apart : List (List ℕ) → Type 0
Apart [] = Unit {0}
Apart (g ∷ gs) = ((t : ℕ) → Owns g t → In gs t → ⊥) × Apart gs

-- none of these steps is of a tile in the groups
abbrev pub Others : List (List ℕ) → List Step → Type 0
Others gs [] = Unit {0}
Others gs (c ∷ more) = (In gs (tile_of c) → ⊥) × Others gs more

-- each of these attempts is of a tile in the groups
abbrev pub Mine : List (List ℕ) → List Step → Type 0
Mine gs [] = Unit {0}
Mine gs (c ∷ more) = In gs (tile_of c) × Mine gs more

-- the run begins with the other one
abbrev pub Extends : List Step → List Step → Type 0
Extends run first = (rest : List Step) × (run ≡ first ++ rest)

-- each step is of one of n tiles
abbrev pub Named : ℕ → List Step → Type 0
Named n [] = Unit {0}
Named n (c ∷ more) = (tile_of c < n) × Named n more

abbrev pub longer : List Step → List Step → List Step
longer xs ys = if nat_lt (length xs) (length ys) then ys else xs

abbrev pub knowing : View → List Step → View
knowing v run = record { live = v.live; load = v.load; run = run; groups = v.groups; told = v.told }

-- all tiles of these groups
abbrev pub flat : List (List ℕ) → List ℕ
flat [] = []
flat (g ∷ gs) = g ++ flat gs

abbrev pub first_group : List (List ℕ) → List ℕ
first_group [] = []
first_group (g ∷ gs) = g

abbrev pub other_groups : List (List ℕ) → List (List ℕ)
other_groups [] = []
other_groups (g ∷ gs) = gs

-- the run goes on from another, with no step of these groups
abbrev pub GroupGoesOn : List (List ℕ) → List Step → List Step → Type 0
GroupGoesOn gs r first = (rest : List Step) × (r ≡ first ++ rest) × Others gs rest

-- the run goes on from each run that was told of, with no step of its groups, which are among these
abbrev pub ToldOfGroup : List Step → List (List ℕ) → List (List Step × List (List ℕ)) → Type 0
ToldOfGroup r groups [] = Unit {0}
ToldOfGroup r groups (x ∷ xs) = GroupGoesOn x.1 r x.0 × ((t : ℕ) → In x.1 t → In groups t) × ToldOfGroup r groups xs

-- how a view is cut: the first group stays, or the new view has no group
abbrev pub with_groups : View → List (List ℕ) → View
with_groups v gs = record { live = v.live; load = v.load; run = v.run; groups = gs; told = [] }

abbrev pub first_half : View → View
first_half v = with_groups v (first_group v.groups ∷ [])

abbrev pub second_half : View → View
second_half v = with_groups v (other_groups v.groups)

abbrev pub note : View → View
note v = with_groups v []

-- two views in one, which is told of both runs
abbrev pub both : View → View → View
both v w = record {
  live = v.live;
  load = v.load;
  run = longer v.run w.run;
  groups = v.groups ++ w.groups;
  told = (v.run, v.groups) ∷ (w.run, w.groups) ∷ [];
}
