-- What zones show of a trace.
use Rattle.std.proofs.Common.{◌≡◌, ℕ, List, length, subst}
use Rattle.trace_laws.specs.declared.event.Event.{Event}
use Rattle.trace_laws.specs.Traces.{IsTrace}
use Rattle.trace_laws.specs.Orders.{IsLinearizable}
use Rattle.trace_zones.specs.declared.conflict.Conflict.{Conflict as Why}
use Rattle.trace_zones.specs.declared.found.Shown.{Shown}
use Rattle.trace_zones.specs.declared.found.Shown.TheVariants.{Conflict}
use Rattle.trace_zones.specs.Looks.{TellsLook}
use Rattle.trace_zones.proofs.Certificates.{certified}

-- a conflict that is shown: no order
pub shown_conflict : {A : Type 0} (opening : List ℕ) (trace : List Event) (shown : Shown A) (w : ℕ) (why : Why A)
    → IsTrace (length opening) trace → shown ≡ Conflict w why → TellsLook opening trace shown
    → IsLinearizable opening trace → ⊥
shown_conflict {A} opening trace shown w why t e is =
    let h : TellsLook opening trace (Conflict w why) = subst (λ (s : Shown A). TellsLook opening trace s) e is in
    certified opening trace w why t h.0 h.1
