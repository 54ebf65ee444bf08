-- More configurations of a word than are looked at.
use Rattle.std.specs.Prelude.{◌≡◌, ◌<◌, ◌^◌, ℕ, List, Option, Some, length, slice_get}
use Rattle.trace_laws.specs.declared.opened.Open.{Open}
use Rattle.trace_laws.specs.declared.opened.Branch.{Branch}
use Rattle.trace_laws.specs.declared.opened.Node.{Node}
use Rattle.trace_judge.specs.Sets.{StaysSound}

-- no two branches have the same configuration, whose slots are 128
pub record AreDistinct (branches : List Branch) : Type 0 where
  pub low : (i : ℕ) (b : Branch) → slice_get branches i ≡ Some b → b.config.taken < 2 ^ 128
  pub apart : (i j : ℕ) (b c : Branch) → i < j → slice_get branches i ≡ Some b
      → slice_get branches j ≡ Some c → b.config ≡ c.config → ⊥

-- there are more than so many
pub record IsCrowd (bound : ℕ) (branches : List Branch) : Type 0 where
  pub many : bound < length branches
  pub distinct : AreDistinct branches

-- open operations lead from some branches to too many
pub record IsOverfull (table : List (Option Open)) (w bound : ℕ) (branches : List Branch)
    (nodes : List Node) : Type 0 where
  pub found : List Branch
  pub more : List Node
  pub sound : StaysSound table w branches nodes found more
  pub crowd : IsCrowd bound found
