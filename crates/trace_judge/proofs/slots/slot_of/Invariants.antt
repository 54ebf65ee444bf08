use Rattle.std.proofs.Common.{◌≡◌, ℕ, ◌<◌}
use Rattle.trace_laws.specs.declared.opened.Open.{Open}
use Rattle.trace_laws.specs.Searches.{IsAt}
use Rattle.trace_judge.proofs.slots.slot_of.Given as goal

abbrev pub invariant-loop-slot : goal.invariant-loop-slot
invariant-loop-slot l = (s : ℕ) (o : Open) → s < l.slot → IsAt l.table s o → o.call.id ≡ l.id → ⊥
