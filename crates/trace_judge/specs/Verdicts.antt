-- What a verdict says.
use Rattle.std.specs.Prelude.{◌≡◌, ◌<◌, ◌≤◌, ◌+◌, ℕ, true, List, MatchOption, length, take}
use Rattle.trace_laws.specs.declared.event.Event.{Event}
use Rattle.trace_laws.specs.Orders.{IsOrder, IsLinearizable}
use Rattle.trace_judge.specs.declared.zoned.Zoned.{Zoned}
use Rattle.trace_judge.specs.declared.judge.Verdict.{Verdict}
use Rattle.trace_judge.specs.declared.judge.Verdict.TheVariants.{Linearizable, No, NoBy}
use Rattle.trace_judge.specs.declared.undecided.Undecided.{Undecided}
use Rattle.trace_judge.specs.Stops.{IsOpen}

-- the first event up to which no order explains the trace: what comes before it has one
abbrev pub IsFirstBadEvent : List ℕ → List Event → ℕ → Type 0
IsFirstBadEvent opening trace event = (event < length trace) × IsLinearizable opening (take event trace)
    × (IsLinearizable opening (take (event + 1) trace) → ⊥)

-- no order explains what so many events are
abbrev pub IsBadBeginning : List ℕ → List Event → ℕ → Type 0
IsBadBeginning opening trace n = (0 < n) × (n ≤ length trace)
    × (IsLinearizable opening (take n trace) → ⊥)

-- an event up to which no order explains the trace; for this reason it isn't decided whether it is
-- the first one, with at most so many configurations of a word at once
pub record IsBadByEvent (opening : List ℕ) (trace : List Event) (bound event : ℕ) (why : Undecided)
    : Type 0 where
  pub none : IsBadBeginning opening trace (event + 1)
  pub undecided : IsOpen opening trace bound why

-- an order that explains the trace; or the first event up to which none does; or a later one
abbrev pub TellsTraceVerdict : {A : Type 0} → List ℕ → List Event → ℕ → Verdict A → Type 0
TellsTraceVerdict opening trace bound (Linearizable order) = IsOrder opening trace order.items
TellsTraceVerdict opening trace bound (No event) = IsFirstBadEvent opening trace event
TellsTraceVerdict opening trace bound (NoBy event why) = IsBadByEvent opening trace bound event why

-- where zones are in conflict no order explains the trace; and an order that they give does
abbrev pub TellsZoned : {A : Type 0} → List ℕ → List Event → Zoned A → Type 0
TellsZoned opening trace zoned = (zoned.conflict ≡ true → IsLinearizable opening trace → ⊥)
    × MatchOption zoned.order (Unit {0}) (λ order. IsOrder opening trace order.items)

-- what comes before this event is linearizable
abbrev pub IsGoodUntil : List ℕ → List Event → ℕ → Type 0
IsGoodUntil opening trace event = (event < length trace) × IsLinearizable opening (take event trace)
