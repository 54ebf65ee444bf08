-- Sets of configurations that grow, and what an answer makes of them.
use Rattle.std.specs.Prelude.{◌≡◌, ◌⊎◌, ◌↔◌, ◌≤◌, ℕ, List, [], ◌∷◌, ◌++◌, Some, slice_get}
use Rattle.packet.specs.declared.kinds.Reply.{Reply}
use Rattle.packet.specs.Memory.{reply_to}
use Rattle.trace_laws.specs.declared.event.Call.{Call}
use Rattle.trace_laws.specs.Configs.{GoesOn, IsIn}
use Rattle.trace_watch.specs.declared.state.Effect.{Effect}
use Rattle.trace_watch.specs.declared.state.Glimpse.{Glimpse}
use Rattle.trace_watch.specs.States.{Config, IsAmong, after, less_one, taken}
use Rattle.trace_watch.specs.Matchings.{AreDistinctPartners, FitsPartner, HasNewest, IsPart, MayBe}
use Rattle.trace_watch.specs.Known.{StaysExplained}
use Rattle.trace_watch.specs.Lowered.{IsLowered, MayFind}

-- a configuration is added, unless one that tells of as much is there
abbrev pub IsOneMore : List Config → Config → List Config → Type 0
IsOneMore old c new = ((new ≡ old) × IsAmong old c) ⊎ (new ≡ old ++ c ∷ [])

-- whichever of the newest operations takes effect in c, where these are enough for the effects,
-- what this leads to is among the configurations
abbrev pub IsExpandedState : List Call → List Call → List Config → Config → Type 0
IsExpandedState calls newest configs c = AreDistinctPartners calls → (call : Call)
    → IsIn newest call → FitsPartner (IsIn calls) (after calls c call).effects
    → IsAmong configs (after calls c call)

-- configurations grow by the ones to which one of the newest operations leads from the one at this
-- place
pub record Expands (at : ℕ) (calls newest : List Call) (old new : List Config) : Type 0 where
  pub expanded : (c : Config) → slice_get old at ≡ Some c → IsExpandedState calls newest new c
  pub grows : GoesOn old new
  pub sound : (all : List Call) → IsPart calls all → IsPart newest all → StaysExplained all old new

-- configurations grow by the ones to which one of the newest operations leads from each that stands
-- at the place `from` or behind it, the added ones too
pub record CatchesUp (from : ℕ) (calls newest : List Call) (old new : List Config) : Type 0 where
  pub closed : (j : ℕ) (c : Config) → from ≤ j → slice_get new j ≡ Some c
      → IsExpandedState calls newest new c
  pub grows : GoesOn old new
  pub sound : (all : List Call) → IsPart calls all → IsPart newest all → StaysExplained all old new

-- the configurations before an answer, with all that other open operations lead to before it
pub record Closes (calls newest : List Call) (old found : List Config) : Type 0 where
  pub kept : (c : Config) → IsIn old c → IsAmong found c
  pub closed : (c : Config) → IsIn found c → IsExpandedState calls newest found c
  pub sound : (all : List Call) → IsPart calls all → IsPart newest all
      → StaysExplained all old found

-- the answered operation takes effect last, and replies so; the others are enough for the effects
abbrev pub IsTakenConfig : List Call → Call → Reply → Config → Config → Type 0
IsTakenConfig others call reply c d =
    (reply_to call.operation.op c.word ≡ reply) × FitsPartner (IsIn others) c.effects
    × (d ≡ taken others c call)

-- the effect at place k may be that of the answered operation, with this reply; the others are
-- enough for the other effects
abbrev pub IsClaimedAt : List Call → Call → Reply → Config → ℕ → Config → Type 0
IsClaimedAt others call reply c k d = (e : Effect) × (slice_get c.effects k ≡ Some e)
    × (e.reply ≡ reply) × MayBe e call × FitsPartner (IsIn others) (less_one c k).effects
    × (d ≡ less_one c k)

-- the answered operation may have found the word of a glimpse, which it left as it was, with this
-- reply; the others are enough for the effects
abbrev pub IsIdleClaim : List Call → Call → Reply → Config → Config → Type 0
IsIdleClaim others call reply c d = (g : Glimpse) × IsIn c.seen g × MayFind g call
    × (reply_to call.operation.op g.word ≡ reply) × FitsPartner (IsIn others) c.effects × (d ≡ c)

-- one of the effects may be
abbrev pub IsClaimed : List Call → Call → Reply → Config → Config → Type 0
IsClaimed others call reply c d = (k : ℕ) × IsClaimedAt others call reply c k d

-- a configuration of a kind, in which each bound is lowered to an open operation
abbrev pub LoweredFrom : List Call → (Config → Type 0) → Config → Type 0
LoweredFrom others Kind d = (c : Config) × Kind c × IsLowered others c d

-- one that tells of as much as a configuration so lowered is among these
abbrev pub IsAmongLowered : List Call → List Config → Config → Type 0
IsAmongLowered others configs c = (d : Config) × IsLowered others c d × IsAmong configs d

-- configurations of a kind are added, lowered, and all of them where the operations have numbers of
-- their own
pub record Gathers (others : List Call) (Kind : Config → Type 0) (old new : List Config) : Type 0
  where
    pub grows : GoesOn old new
    pub from : (d : Config) → IsIn new d → IsIn old d ⊎ LoweredFrom others Kind d
    pub all : AreDistinctPartners others → (c : Config) → Kind c → IsAmongLowered others new c

-- the answered operation has taken effect
abbrev pub MayClaim : List Call → Call → Reply → Config → Config → Type 0
MayClaim others call reply c d = IsClaimed others call reply c d ⊎ IsIdleClaim others call reply c d

-- one of these is led to so
abbrev pub FromOne : List Config → (Config → Config → Type 0) → Config → Type 0
FromOne configs Leads d = (c : Config) × IsIn configs c × Leads c d

-- an operation is answered while these are open
pub record IsAnsweredBy (call : Call) (reply : Reply) (calls : List Call) (old new : List Config)
    : Type 0 where
  pub others : List Call
  pub newest : List Call
  pub found : List Config
  pub rest : (c : Call) → IsIn others c ↔ (IsIn calls c × (c.id ≡ call.id → ⊥))
  pub latest : HasNewest others newest
  pub closes : Closes others newest old found
  pub from : (d : Config) → IsIn new d
      → LoweredFrom others (FromOne found (IsTakenConfig others call reply)) d
      ⊎ LoweredFrom others (FromOne old (MayClaim others call reply)) d
  pub taken : AreDistinctPartners others → (c : Config)
      → FromOne found (IsTakenConfig others call reply) c → IsAmongLowered others new c
  pub claimed : AreDistinctPartners others → (c : Config)
      → FromOne old (MayClaim others call reply) c → IsAmongLowered others new c
