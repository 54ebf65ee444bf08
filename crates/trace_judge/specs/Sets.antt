-- Sets of branches, as lists that grow at their ends.
use Rattle.std.specs.Prelude.{◌≡◌, ◌<◌, ℕ, List, [], ◌∷◌, ◌++◌, Option, Some, None, Vec, length, map, slice_index_or}
use Rattle.std.specs.Prelude.{cond, ◌==◌}
use Rattle.trace_laws.specs.declared.event.Event.{Event}
use Rattle.trace_laws.specs.declared.opened.Open.{Open}
use Rattle.trace_laws.specs.declared.opened.Config.{Config}
use Rattle.trace_laws.specs.declared.opened.Branch.{Branch}
use Rattle.trace_laws.specs.declared.opened.Node.{Node}
use Rattle.trace_laws.specs.Traces.{IsTrace}
use Rattle.trace_laws.specs.Configs.{IsIn, IsLeft, MayTake, AgreesWithValue, effect}
use Rattle.trace_laws.specs.Searches.{AreTables, IsSoundSearch}

-- what a place of the table holds may take effect
pub record TakesEffect (place : Option Open) (word : ℕ) (c : Config) (s : ℕ) (o : Open) : Type 0
  where
    pub there : place ≡ Some o
    pub here : o.call.operation.address ≡ word
    pub left : IsLeft c s
    pub agrees : AgreesWithValue o c.word

-- what a place of the table holds is on this word, and never answered
abbrev pub WaitsForEvent : Option Open → ℕ → Type 0
WaitsForEvent place word = (o : Open) × (place ≡ Some o) × (o.call.operation.address ≡ word)
    × (o.promise ≡ None)

-- what there is of each word
abbrev pub lists_of : {X A : Type 0} → List (Vec X A) → ℕ → List X
lists_of words w = slice_index_or (map (λ v. v.items) words) w []

-- the branches of one word are others
abbrev pub with_set : (ℕ → List Branch) → ℕ → List Branch → ℕ → List Branch
with_set sets w branches v = cond (v == w) branches (sets v)

-- where the search was sound with the old branches of a word, it is with the new ones
abbrev pub StaysSound : List (Option Open) → ℕ → List Branch → List Node → List Branch → List Node
    → Type 0
StaysSound table w old nodes new more =
    (opening : List ℕ) (trace : List Event) (k : ℕ) (tables : ℕ → List (Option Open))
    (sets : ℕ → List Branch) → IsTrace (length opening) trace
    → AreTables (length opening) trace k tables → tables w ≡ table → w < length opening
    → IsSoundSearch opening trace k tables (with_set sets w old) nodes
    → IsSoundSearch opening trace k tables (with_set sets w new) more

-- another branch stands in the place of this one
abbrev pub Replaces : List (Option Open) → ℕ → Branch → List Node → Branch → List Node → Type 0
Replaces table w from nodes to more = (others : List Branch)
    → StaysSound table w (others ++ from ∷ []) nodes (others ++ to ∷ []) more

-- beside others, of which this branch is one or which it is found among, there are more
abbrev pub Joins : List (Option Open) → ℕ → Branch → List Branch → List Node → List Branch
    → List Node → Type 0
Joins table w from found nodes new more = (others : List Branch) → IsIn (others ++ found) from
    → StaysSound table w (others ++ found) nodes (others ++ new) more

-- an operation takes effect in a branch
abbrev pub Takes : List (Option Open) → ℕ → Branch → Open → Config → List Branch → List Node
    → List Branch → List Node → Type 0
Takes table w from o config found nodes new more = (s : ℕ) → IsIn found from
    → MayTake table w from.config s o → config ≡ effect from.config s o
    → StaysSound table w found nodes new more
