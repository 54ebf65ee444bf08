-- Equal operations that are never answered take effect in the order of their numbers.
use Rattle.std.specs.Prelude.{◌≡◌, ◌⊎◌, ◌<◌, ℕ, List, Option, None, length}
use Rattle.trace_laws.specs.declared.event.Call.{Call}
use Rattle.trace_laws.specs.declared.event.Event.{Event}
use Rattle.trace_laws.specs.declared.opened.Open.{Open}
use Rattle.trace_laws.specs.declared.opened.Config.{Config}
use Rattle.trace_laws.specs.declared.opened.Branch.{Branch}
use Rattle.trace_laws.specs.declared.opened.Node.{Node}
use Rattle.trace_laws.specs.Unanswered.{HasNoUnansweredLoad}
use Rattle.trace_laws.specs.Orders.{IsOrder, IsLinearizable}
use Rattle.trace_laws.specs.Configs.{IsOpen, IsLeft, MayTake, HasAsGood, effect}
use Rattle.trace_laws.specs.Searches.{AreTables, IsSoundSearch, IsCovered, configs_of}

-- an elder of an open operation: it was issued before it, asks the same, and neither is answered
pub record IsElder (elder o : Open) : Type 0 where
  pub older : elder.call.id < o.call.id
  pub same : elder.call.operation ≡ o.call.operation
  pub lost : elder.promise ≡ None
  pub waits : o.promise ≡ None

-- an elder of this operation has not taken effect
pub record HasElder (table : List (Option Open)) (word : ℕ) (c : Config) (o : Open) : Type 0 where
  pub slot : ℕ
  pub elder : Open
  pub pending : IsOpen table word slot elder
  pub left : IsLeft c slot
  pub is : IsElder elder o

-- whatever may take effect in c and has no elder there, one that is as good as the result is among
-- these
abbrev pub IsExpandedInTurn : List (Option Open) → ℕ → List Config → Config → Type 0
IsExpandedInTurn table word configs c =
    (s : ℕ) (o : Open) → MayTake table word c s o
    → HasElder table word c o ⊎ HasAsGood table word configs (effect c s o)

-- some order explains the trace, and a configuration of word w keeps up with it up to a cut
pub record IsKeptUp (opening : List ℕ) (trace : List Event) (k : ℕ) (table : List (Option Open)) (w : ℕ)
    (configs : List Config) : Type 0 where
  pub order : List Call
  pub explains : IsOrder opening trace order
  pub heard : HasNoUnansweredLoad trace order
  pub covered : IsCovered opening trace k table w order configs

-- if the trace has an order, each word has a configuration that keeps up with some order
abbrev pub KeepsSome : List ℕ → List Event → ℕ → (ℕ → List (Option Open)) → (ℕ → List Config)
    → Type 0
KeepsSome opening trace k tables sets = IsLinearizable opening trace
    → (w : ℕ) → w < length opening → IsKeptUp opening trace k (tables w) w (sets w)

-- all that the judge knows before event k, of the open operations and of the branches of each word
pub record IsSearchedInTurn (opening : List ℕ) (trace : List Event) (k : ℕ)
    (tables : ℕ → List (Option Open)) (sets : ℕ → List Branch) (nodes : List Node) : Type 0 where
  pub tabled : AreTables (length opening) trace k tables
  pub sound : IsSoundSearch opening trace k tables sets nodes
  pub complete : KeepsSome opening trace k tables (λ w. configs_of (sets w))
