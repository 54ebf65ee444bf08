-- Which open operations effects may be of.
use Rattle.std.specs.Prelude.{◌≡◌, ◌⊎◌, ◌≤◌, ℕ, Bool, true, false, List, [], ◌∷◌, ◌++◌, Option, Some, length, slice_get}
use Rattle.packet.specs.declared.kinds.Op.{Op}
use Rattle.trace_laws.specs.declared.event.Call.{Call}
use Rattle.trace_laws.specs.Configs.{IsIn}
use Rattle.trace_watch.specs.declared.state.Effect.{Effect}

-- an effect may be of an operation: it asks the same, and isn't too new
pub record MayBe (e : Effect) (call : Call) : Type 0 where
  pub asks : call.operation.op ≡ e.op
  pub early : call.id ≤ e.newest

-- all but the operation of this number
abbrev pub Other : (Call → Type 0) → ℕ → Call → Type 0
Other P id call = P call × (call.id ≡ id → ⊥)

-- each effect may be of the operation at its place; each has its own number
abbrev pub Matches : (Call → Type 0) → List Effect → List Call → Type 0
Matches P [] [] = Unit {0}
Matches P [] (call ∷ calls) = ⊥
Matches P (e ∷ es) [] = ⊥
Matches P (e ∷ es) (call ∷ calls) = P call × MayBe e call × Matches (Other P call.id) es calls

-- effects may each be of an operation of its own
abbrev pub FitsPartner : (Call → Type 0) → List Effect → Type 0
FitsPartner P es = (calls : List Call) × Matches P es calls

-- no two operations have one number
abbrev pub AreDistinctPartners : List Call → Type 0
AreDistinctPartners calls = (c d : Call) → IsIn calls c → IsIn calls d → c.id ≡ d.id → c ≡ d

-- the newest of these operations that may
pub record IsNewestOf (calls : List Call) (May : Call → Type 0) (call : Call) : Type 0 where
  pub on : IsIn calls call
  pub may : May call
  pub newest : (k : ℕ) (c : Call) → slice_get calls k ≡ Some c → May c → c.id ≤ call.id

-- the newer one of an operation and the newest so far
abbrev pub IsNewer : Option Call → Call → Option Call → Type 0
IsNewer last call next = ((next ≡ last) × ((d : Call) × (last ≡ Some d) × (call.id ≤ d.id)))
    ⊎ ((next ≡ Some call) × ((d : Call) → last ≡ Some d → d.id ≤ call.id))

-- an effect may be of an operation, which is none of those of these numbers
pub record MayStillBe (taken : List ℕ) (e : Effect) (call : Call) : Type 0 where
  pub may : MayBe e call
  pub left : IsIn taken call.id → ⊥

-- one of these operations, and none of those of these numbers
abbrev pub IsUntaken : List Call → List ℕ → Call → Type 0
IsUntaken calls taken call = IsIn calls call × (IsIn taken call.id → ⊥)

-- the operations are enough for these effects and more, where those but for these numbers are for the
-- others
pub record ArePartners (calls : List Call) (effects : List Effect) (taken : List ℕ) : Type 0 where
  pub enough : (more : List Effect) → FitsPartner (IsUntaken calls taken) more
      → FitsPartner (IsIn calls) (effects ++ more)
  pub least : AreDistinctPartners calls → (more : List Effect)
      → FitsPartner (IsIn calls) (effects ++ more) → FitsPartner (IsUntaken calls taken) more

-- one of these asks the same and is as new
abbrev pub HasAsNew : List Call → Call → Type 0
HasAsNew calls call = (d : Call) × IsIn calls d × (d.operation.op ≡ call.operation.op)
    × (call.id ≤ d.id)

-- some of these, and for each one that asks the same and is as new
pub record HasNewest (calls newest : List Call) : Type 0 where
  pub from : (c : Call) → IsIn newest c → IsIn calls c
  pub all : (c : Call) → IsIn calls c → HasAsNew newest c

-- an effect's bound is the number of one of these operations, which asks the same
abbrev pub HasBound : List Call → Effect → Type 0
HasBound calls e = (call : Call) × IsIn calls call × (call.operation.op ≡ e.op)
    × (call.id ≡ e.newest)

-- whichever of these operations asks this has this number
abbrev pub IsAlone : List Call → Op → ℕ → Type 0
IsAlone calls op id = (call : Call) → IsIn calls call → call.operation.op ≡ op → call.id ≡ id

-- of each of the newest operations it is told whether no other asks the same
pub record AreToldAlone (calls newest : List Call) (alone : List Bool) : Type 0 where
  pub long : length alone ≡ length newest
  pub yes : (i : ℕ) (call : Call) → slice_get newest i ≡ Some call → slice_get alone i ≡ Some true
      → IsAlone calls call.operation.op call.id
  pub no : (i : ℕ) (call : Call) → slice_get newest i ≡ Some call → slice_get alone i ≡ Some false
      → IsAlone calls call.operation.op call.id → ⊥

-- each of these is one of those
abbrev pub IsPart : List Call → List Call → Type 0
IsPart calls all = (c : Call) → IsIn calls c → IsIn all c
