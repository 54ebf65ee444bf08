-- What is known of a trace so far.
use Rattle.std.specs.Prelude.{◌≡◌, ◌⊎◌, ◌<◌, ◌≤◌, ◌++◌, ℕ, List, Option, Some, length, take, slice_get, slice_index}
use Rattle.packet.specs.Memory.{reply_of_one}
use Rattle.trace_laws.specs.declared.event.Call.{Call}
use Rattle.trace_laws.specs.declared.event.Event.{Event}
use Rattle.trace_laws.specs.Traces.{TraceIssuesAt, IsAnswered}
use Rattle.trace_laws.specs.Orders.{memory_of}
use Rattle.trace_laws.specs.Locality.{IsOrderOn}
use Rattle.trace_laws.specs.Configs.{IsIn}
use Rattle.trace_watch.specs.declared.state.Effect.{Effect}
use Rattle.trace_watch.specs.declared.state.Glimpse.{Glimpse}
use Rattle.trace_watch.specs.States.{Config, IsIdleIn, IsIdleHere, with_idle}
use Rattle.trace_watch.specs.Matchings.{FitsPartner, Matches}
use Rattle.trace_watch.specs.Named.{NamedEffect, NamedConfig, HasEffect, named_config}

-- an operation stands in an order, and replies there what it took effect with
pub record IsReplied (opening : List ℕ) (order : List Call) (e : NamedEffect) : Type 0
  where
    pub at : ℕ
    pub call : Call
    pub there : slice_get order at ≡ Some call
    pub number : call.id ≡ e.id
    pub reply : e.reply ≡ reply_of_one call.operation (memory_of opening (take at order))

-- An order explains what the trace does on word w, and a configuration tells what it leaves: the
-- word, and which of the open operations stand in it, with their replies.
pub record Explains (opening : List ℕ) (trace : List Event) (w : ℕ) (order : List Call)
    (c : NamedConfig) : Type 0 where
  pub legal : IsOrderOn w opening trace order
  pub word : c.word ≡ slice_index (memory_of opening order) w
  pub pending : (e : NamedEffect) → IsIn c.effects e → IsAnswered trace e.id → ⊥
  pub replied : (e : NamedEffect) → IsIn c.effects e → IsReplied opening order e
  pub all : (x : ℕ) (call : Call) → slice_get order x ≡ Some call
      → (IsAnswered trace call.id → ⊥) → HasEffect c call.id

-- an operation was issued, and isn't answered
pub record IsPendingCall (trace : List Event) (call : Call) : Type 0 where
  pub issued : (i : ℕ) × TraceIssuesAt trace i call
  pub unanswered : IsAnswered trace call.id → ⊥

-- an open operation on word w
pub record IsOpenOn (trace : List Event) (w : ℕ) (call : Call) : Type 0 where
  pub pending : IsPendingCall trace call
  pub here : call.operation.address ≡ w

-- an operation was issued whose number isn't below this one
abbrev pub HasIssued : List Event → ℕ → Type 0
HasIssued trace n = (i : ℕ) × (call : Call) × TraceIssuesAt trace i call × (n ≤ call.id)

-- these took effect at words that were there
abbrev pub AreIdleIn : List Glimpse → List Effect → Type 0
AreIdleIn seen es = (e : Effect) → IsIn es e → IsIdleIn seen e

-- or at the word that is there
abbrev pub AreIdleHere : Config → List Effect → Type 0
AreIdleHere c es = (e : Effect) → IsIn es e → IsIdleHere c.word c.seen e

-- Orders lead to a configuration: its effects may be of open operations on word w, each of its own,
-- and whichever they are of, an order explains it, with whatever other open operations took effect
-- at words that were there. None of these is of an operation yet to be issued.
pub record IsExplainedWatch (opening : List ℕ) (trace : List Event) (w : ℕ) (c : Config)
    : Type 0 where
  pub fits : FitsPartner (IsOpenOn trace w) c.effects
  pub explained : (idle : List Effect) → AreIdleIn c.seen idle → (calls : List Call)
      → Matches (IsOpenOn trace w) (c.effects ++ idle) calls
      → (order : List Call) × Explains opening trace w order (named_config (with_idle c idle) calls)
  pub issued : (e : Effect) → IsIn c.effects e → HasIssued trace e.newest
  pub seen : (g : Glimpse) → IsIn c.seen g → HasIssued trace g.newest

-- orders lead to these configurations
abbrev pub AreExplained : List ℕ → List Event → ℕ → List Config → Type 0
AreExplained opening trace w configs =
    (c : Config) → IsIn configs c → IsExplainedWatch opening trace w c

-- an order leads to one of these configurations, whose effects are of these operations, with others
-- that took effect at words that were there
pub record LeadsToConfig (opening : List ℕ) (trace : List Event) (w : ℕ) (order : List Call)
    (configs : List Config) : Type 0 where
  pub config : Config
  pub on : IsIn configs config
  pub idle : List Effect
  pub seen : AreIdleHere config idle
  pub calls : List Call
  pub matches : Matches (IsOpenOn trace w) (config.effects ++ idle) calls
  pub explains : Explains opening trace w order (named_config (with_idle config idle) calls)

-- of a word orders lead to these configurations, and whatever order explains what the trace does on
-- it, a beginning of that order leads to one
pub record Knows (opening : List ℕ) (trace : List Event) (w : ℕ) (configs : List Config) : Type 0
  where
    pub sound : AreExplained opening trace w configs
    pub complete : (order : List Call) → IsOrderOn w opening trace order
        → (n : ℕ) × LeadsToConfig opening trace w (take n order) configs

-- these are the open operations
pub record ArePending (trace : List Event) (calls : List Call) : Type 0 where
  pub each : (call : Call) → IsIn calls call → IsPendingCall trace call
  pub all : (i : ℕ) (call : Call) → TraceIssuesAt trace i call
      → IsAnswered trace call.id ⊎ IsIn calls call

-- these are the open operations on word w
pub record ArePendingOn (trace : List Event) (w : ℕ) (calls : List Call) : Type 0 where
  pub each : (call : Call) → IsIn calls call → IsPendingCall trace call
  pub here : (call : Call) → IsIn calls call → call.operation.address ≡ w
  pub all : (i : ℕ) (call : Call) → TraceIssuesAt trace i call → call.operation.address ≡ w
      → IsAnswered trace call.id ⊎ IsIn calls call

-- the number of the newest operation
pub record IsNewest (trace : List Event) (last : Option ℕ) : Type 0 where
  pub above : (i : ℕ) (call : Call) → TraceIssuesAt trace i call
      → (n : ℕ) × (last ≡ Some n) × (call.id ≤ n)
  pub told : (n : ℕ) → last ≡ Some n → (i : ℕ) × (call : Call) × TraceIssuesAt trace i call
      × (call.id ≡ n)

-- where these operations are open on a word, and orders lead to the old configurations, orders lead
-- to the new ones
abbrev pub StaysExplained : List Call → List Config → List Config → Type 0
StaysExplained calls old new = (opening : List ℕ) (trace : List Event) (w : ℕ)
    → w < length opening → ArePendingOn trace w calls → AreExplained opening trace w old
    → AreExplained opening trace w new
