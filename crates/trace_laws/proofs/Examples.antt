-- Worked traces of one word, against the definitions.
use Rattle.std.proofs.Common.{ℕ, ◌<◌, ◌≤◌, List, [], ◌∷◌, refl, arith}
use Rattle.packet.specs.declared.kinds.Op.{Op}
use Rattle.packet.specs.declared.kinds.Op.TheVariants.{Load, Store}
use Rattle.packet.specs.declared.kinds.Reply.TheVariants.{Old, Ok as Stored}
use Rattle.trace_laws.specs.declared.event.Call.{Call}
use Rattle.trace_laws.specs.declared.event.Event.{Event}
use Rattle.trace_laws.specs.declared.event.Event.TheVariants.{Issue, Answer}
use Rattle.trace_laws.specs.Traces.{IsTrace}
use Rattle.trace_laws.specs.Locality.{IsOrderOn}
use Rattle.trace_laws.specs.Paths.{MayTakeEffect}

abbrev call : ℕ → Op → Call
call id op = record { id = id; operation = record { address = 0; op = op } }

-- a store, and a load of the old word that is issued once the store is answered
abbrev stale : List Event
stale = Issue (call 1 (Store 17)) ∷ Answer 1 Stored ∷ Issue (call 2 Load) ∷ Answer 2 (Old 0) ∷ []

-- an order that explains what the trace does on word 0 doesn't have the load first
load_is_not_first : IsOrderOn 0 (0 ∷ []) stale (call 2 Load ∷ call 1 (Store 17) ∷ []) → ⊥
load_is_not_first o =
    let late : 1 < 0 = o.real_time 1 2 1 0 (call 1 (Store 17)) (call 2 Load) Stored
    (omega arith) refl refl refl refl in
    absurd (omega (arith, late))

-- the store doesn't take effect after its answer
no_effect_after_the_answer : MayTakeEffect stale 2 [] (call 1 (Store 17)) → ⊥
no_effect_after_the_answer may =
    let early : 2 ≤ 1 = may.unanswered 1 Stored refl in absurd (omega (arith, early))

-- two operations don't have one number
no_number_recurs : IsTrace 1 (Issue (call 1 Load) ∷ Issue (call 1 Load) ∷ []) → ⊥
no_number_recurs is =
    let less : 1 < 1 = is.rising 0 1 (call 1 Load) (call 1 Load) (omega arith) refl refl in
    absurd (omega (arith, less))
