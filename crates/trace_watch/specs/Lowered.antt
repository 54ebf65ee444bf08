-- Configurations whose bounds are lowered to the newest open operations.
use Rattle.std.specs.Prelude.{◌≡◌, ◌≤◌, ◌⊎◌, ℕ, true, List, [], ◌∷◌}
use Rattle.trace_laws.specs.declared.event.Call.{Call}
use Rattle.trace_laws.specs.Configs.{IsIn}
use Rattle.trace_watch.specs.declared.state.Effect.{Effect}
use Rattle.trace_watch.specs.declared.state.Glimpse.{Glimpse}
use Rattle.trace_watch.specs.States.{Config, IsGlimpsed, is_idle}
use Rattle.trace_watch.specs.Matchings.{IsNewestOf, MayBe}

-- an operation may have found the word of a glimpse, which it leaves as it is
pub record MayFind (g : Glimpse) (call : Call) : Type 0 where
  pub idle : is_idle call.operation.op g.word ≡ true
  pub early : call.id ≤ g.newest

-- a glimpse is kept beside others, where an operation may have found its word
pub record NotesGlimpse (calls : List Call) (h : Glimpse) (old new : List Glimpse) : Type 0
  where
    pub kept : (g : Glimpse) → IsIn old g → IsIn new g
    pub from : (g : Glimpse) → IsIn new g → IsIn old g
        ⊎ ((h.word ≡ g.word) × (g.newest ≤ h.newest)
        × ((call : Call) × IsIn calls call × (call.id ≡ g.newest)))
    pub up : (call : Call) → IsIn calls call → MayFind h call
        → IsGlimpsed new (record { word = h.word; newest = call.id })

-- the bound is the number of the newest operation that the effect may be of, if there is one
abbrev pub IsBounded : List Call → Effect → ℕ → Type 0
IsBounded calls e n = ((call : Call) × IsNewestOf calls (MayBe e) call × (n ≡ call.id))
    ⊎ (((call : Call) → IsIn calls call → MayBe e call → ⊥) × (n ≡ e.newest))

-- effects as these, each with such a bound
abbrev pub AreLowered : List Call → List Effect → List Effect → Type 0
AreLowered calls [] [] = Unit {0}
AreLowered calls [] (f ∷ fs) = ⊥
AreLowered calls (e ∷ es) [] = ⊥
AreLowered calls (e ∷ es) (f ∷ fs) =
    (f.op ≡ e.op) × (f.reply ≡ e.reply) × IsBounded calls e f.newest × AreLowered calls es fs

-- glimpses of words that open operations may have found
pub record AreLoweredGlimpses (calls : List Call) (old new : List Glimpse) : Type 0 where
  pub down : (g : Glimpse) → IsIn new g → IsGlimpsed old g
  pub up : (h : Glimpse) (call : Call) → IsIn old h → IsIn calls call → MayFind h call
      → IsGlimpsed new (record { word = h.word; newest = call.id })
  pub low : (g : Glimpse) → IsIn new g → (call : Call) × IsIn calls call × (call.id ≡ g.newest)

-- each bound is lowered; words that none of the open operations may have found are left out
pub record IsLowered (calls : List Call) (c d : Config) : Type 0 where
  pub word : d.word ≡ c.word
  pub effects : AreLowered calls c.effects d.effects
  pub seen : AreLoweredGlimpses calls c.seen d.seen
