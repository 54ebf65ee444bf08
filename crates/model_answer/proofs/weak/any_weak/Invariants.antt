use Rattle.std.proofs.Common.{◌≡◌, drop}
use Rattle.std.specs.List.{list_any}
use Rattle.model_answer.specs.Weak.{is_weak}
use Rattle.model_answer.proofs.weak.any_weak.Given as goal

-- the first ones don't
abbrev pub invariant-loop-i : goal.invariant-loop-i
invariant-loop-i l = list_any is_weak (drop l.i l.notes) ≡ list_any is_weak l.notes
