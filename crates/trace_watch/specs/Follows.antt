-- What a watch knows of the trace so far, and what it says of an event.
use Rattle.std.specs.Prelude.{◌≡◌, ◌<◌, ◌++◌, ◌∷◌, ℕ, [], List, Vec, length, map, slice_index_or}
use Rattle.packet.specs.declared.kinds.Reply.{Reply}
use Rattle.trace_laws.specs.declared.event.Call.{Call}
use Rattle.trace_laws.specs.declared.event.Event.{Event}
use Rattle.trace_laws.specs.declared.event.Event.TheVariants.{Answer}
use Rattle.trace_laws.specs.Traces.{IsTrace}
use Rattle.trace_laws.specs.Orders.{IsLinearizable}
use Rattle.trace_laws.specs.Configs.{IsIn}
use Rattle.trace_watch.specs.declared.state.State.{State}
use Rattle.trace_watch.specs.declared.watch.Watch.{Watch}
use Rattle.trace_watch.specs.declared.watch.Seen.{Seen}
use Rattle.trace_watch.specs.declared.watch.Seen.TheVariants.{Linearizable, NotLinearizable, NoTrace}
use Rattle.trace_watch.specs.declared.watch.Full.{Full}
use Rattle.trace_watch.specs.declared.watch.Full.TheVariants.{Memory, Configurations}
use Rattle.trace_watch.specs.States.{Config, configs_of}
use Rattle.trace_watch.specs.Known.{Knows, AreExplained, ArePending, ArePendingOn, IsNewest, IsPendingCall}
use Rattle.trace_watch.specs.Crowds.{AreFew, IsOpenCrowd}

-- what there is of each word
abbrev pub states_of : {A : Type 0} → List (Vec (State A) A) → ℕ → List Config
states_of words w = configs_of (slice_index_or (map (λ v. v.items) words) w [])

-- the trace so far is one, and a watch knows what may have become of each word
pub record Tracks {A : Type 0} (opening : List ℕ) (trace : List Event) (watch : Watch A) : Type 0
  where
    pub well : IsTrace (length opening) trace
    pub newest : IsNewest trace watch.last
    pub pending : ArePending trace watch.pending.items
    pub sized : length watch.words.items ≡ length opening
    pub known : (w : ℕ) → w < length opening
        → Knows opening trace w (states_of watch.words.items w)
    pub filled : (w : ℕ) → w < length opening
        → (c : Config) × IsIn (states_of watch.words.items w) c

-- it is taken, and the trace is linearizable with it; or there is no order with it, which there is
-- without it; or with it the events are no trace
abbrev pub TellsSeen : {A : Type 0} → List ℕ → List Event → Event → Watch A → Seen → Type 0
TellsSeen opening trace event watch Linearizable = Tracks opening (trace ++ event ∷ []) watch
    × IsLinearizable opening (trace ++ event ∷ [])
TellsSeen opening trace event watch NotLinearizable = Tracks opening trace watch
    × IsTrace (length opening) (trace ++ event ∷ []) × IsLinearizable opening trace
    × (IsLinearizable opening (trace ++ event ∷ []) → ⊥)
TellsSeen opening trace event watch NoTrace = Tracks opening trace watch
    × (IsTrace (length opening) (trace ++ event ∷ []) → ⊥)

-- a word has more configurations than so many: orders lead to them, and none tells of whatever a
-- later one does
pub record HasManyConfigs (opening : List ℕ) (trace : List Event) (w bound : ℕ) : Type 0 where
  pub configs : List Config
  pub explained : AreExplained opening trace w configs
  pub crowd : IsOpenCrowd bound configs

-- an event that isn't decided answers an open operation on a word that has too many configurations
-- before the answer
pub record AnswersMany (opening : List ℕ) (trace : List Event) (event : Event) (bound : ℕ) : Type 0
  where
    pub call : Call
    pub pending : IsPendingCall trace call
    pub reply : Reply
    pub answer : event ≡ Answer call.id reply
    pub many : HasManyConfigs opening trace call.operation.address bound

-- it is such an answer, or memory was refused
abbrev pub TellsFull : List ℕ → List Event → Event → ℕ → Full → Type 0
TellsFull opening trace event bound Memory = Unit {0}
TellsFull opening trace event bound Configurations = AnswersMany opening trace event bound

-- where an event answers an open operation, the open ones on its word lead to no more than so many
-- configurations from those that a watch holds of it
abbrev pub AnswersFew : {A : Type 0} → List Event → Event → ℕ → Watch A → Type 0
AnswersFew trace event bound watch = (call : Call) (reply : Reply) (calls : List Call)
    → IsPendingCall trace call → event ≡ Answer call.id reply
    → ArePendingOn trace call.operation.address calls
    → AreFew call.id calls bound (states_of watch.words.items call.operation.address)
