-- How many configurations of a word are looked at.
use Rattle.std.specs.Prelude.{◌≡◌, ◌<◌, ◌≤◌, ◌↔◌, ℕ, List, [], ◌∷◌, Some, length, slice_get}
use Rattle.trace_laws.specs.declared.event.Call.{Call}
use Rattle.trace_laws.specs.Configs.{IsIn}
use Rattle.trace_watch.specs.States.{Config, Covers, IsAmong, after}
use Rattle.trace_watch.specs.Matchings.{FitsPartner, IsPart}
use Rattle.trace_watch.specs.Known.{StaysExplained}

-- of the first so many none tells of whatever a later one does
abbrev pub AreUnlike : ℕ → List Config → Type 0
AreUnlike count configs = (i j : ℕ) (c d : Config) → i < j → j < count
    → slice_get configs i ≡ Some c → slice_get configs j ≡ Some d → Covers c d → ⊥

-- there are more than so many, and none tells of whatever a later one does
pub record IsOpenCrowd (bound : ℕ) (configs : List Config) : Type 0 where
  pub many : bound < length configs
  pub unlike : AreUnlike (length configs) configs

-- where these operations are open, and orders lead to some configurations, orders lead to others,
-- which are too many
pub record GivesUp (calls newest : List Call) (bound : ℕ) (old new : List Config) : Type 0 where
  pub sound : (all : List Call) → IsPart calls all → IsPart newest all → StaysExplained all old new
  pub crowd : IsOpenCrowd bound new

-- these operations lead to too many from some configurations
pub record IsOverfullCrowd (calls : List Call) (bound : ℕ) (old : List Config) : Type 0 where
  pub found : List Config
  pub sound : StaysExplained calls old found
  pub crowd : IsOpenCrowd bound found

-- some operations take effect one after the other, of which each effect may be (Lowe: just-in-time
-- linearization)
abbrev pub ExplainsCrowd : List Call → Config → List Call → Config → Type 0
ExplainsCrowd calls c [] d = c ≡ d
ExplainsCrowd calls c (call ∷ path) d = IsIn calls call
    × FitsPartner (IsIn calls) (after calls c call).effects
    × ExplainsCrowd calls (after calls c call) path d

-- the operations but for the one of this number
abbrev pub AreOthers : ℕ → List Call → List Call → Type 0
AreOthers id calls others = (c : Call) → IsIn others c ↔ (IsIn calls c × (c.id ≡ id → ⊥))

-- of whatever the others of these operations so lead to from some configurations, one of so many at
-- most tells
pub record AreFew (id : ℕ) (calls : List Call) (bound : ℕ) (old : List Config) : Type 0 where
  pub found : List Config
  pub short : length found ≤ bound
  pub all : (others : List Call) (c d : Config) (path : List Call) → AreOthers id calls others
      → IsIn old c → ExplainsCrowd others c path d → IsAmong found d
