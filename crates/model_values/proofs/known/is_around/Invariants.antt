use Rattle.std.proofs.Common.{◌≡◌, ℕ, ◌<◌, true}
use Rattle.model_values.specs.Known.{is_known}
use Rattle.model_values.proofs.known.is_around.Given as goal

-- none of the operations so far
abbrev pub invariant-loop-x : goal.invariant-loop-x
invariant-loop-x l = record { none : (x : ℕ) → x < l.x → is_known l.table l.size l.level x x ≡ true → ⊥ }
