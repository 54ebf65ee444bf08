-- Operations that are never answered, and traces without some of them.
use Rattle.std.specs.Prelude.{◌≡◌, ◌⊎◌, ℕ, List, [], ◌∷◌, Some, slice_get}
use Rattle.packet.specs.declared.kinds.Op.TheVariants.{Load}
use Rattle.packet.specs.declared.kinds.Reply.{Reply}
use Rattle.trace_laws.specs.declared.event.Call.{Call}
use Rattle.trace_laws.specs.declared.event.Event.{Event}
use Rattle.trace_laws.specs.declared.event.Event.TheVariants.{Issue, Answer}
use Rattle.trace_laws.specs.Traces.{IsAnswered}

-- a load that the trace never answers
pub record IsUnansweredLoad (trace : List Event) (call : Call) : Type 0 where
  pub load : call.operation.op ≡ Load
  pub never : IsAnswered trace call.id → ⊥

-- the event issues one
abbrev pub IssuesUnansweredLoad : List Event → Event → Type 0
IssuesUnansweredLoad trace event = (call : Call) × (event ≡ Issue call) × IsUnansweredLoad trace call

-- the event issues an operation that the trace never answers
abbrev pub IssuesUnanswered : List Event → Event → Type 0
IssuesUnanswered trace event = (call : Call) × (event ≡ Issue call) × (IsAnswered trace call.id → ⊥)

-- the event answers an operation
abbrev pub IsResponse : Event → Type 0
IsResponse event = (id : ℕ) × (reply : Reply) × (event ≡ Answer id reply)

-- a list without some of its elements, of which each is such a one
abbrev pub IsWithout : {A : Type 0} → (A → Type 0) → List A → List A → Type 0
IsWithout {A} P [] short = short ≡ []
IsWithout {A} P (x ∷ long) short =
    ((rest : List A) × (short ≡ x ∷ rest) × IsWithout P long rest) ⊎ (P x × IsWithout P long short)

-- an order has no load that the trace never answers
abbrev pub HasNoUnansweredLoad : List Event → List Call → Type 0
HasNoUnansweredLoad trace order =
    (x : ℕ) (c : Call) → slice_get order x ≡ Some c → IsUnansweredLoad trace c → ⊥
