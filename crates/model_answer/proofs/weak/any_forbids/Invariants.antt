use Rattle.std.proofs.Common.{◌≡◌, drop}
use Rattle.std.specs.List.{list_any}
use Rattle.model_answer.specs.Weak.{forbids}
use Rattle.model_answer.proofs.weak.any_forbids.Given as goal

-- the first ones don't
abbrev pub invariant-loop-i : goal.invariant-loop-i
invariant-loop-i l = list_any forbids (drop l.i l.notes) ≡ list_any forbids l.notes
