use Rattle.std.proofs.Common.{◌≡◌, filter, take}
use Rattle.model_answer.specs.Parts.{is_of_kept}
use Rattle.model_answer.proofs.part.kept_dependencies.Given as goal

abbrev pub invariant-loop-i : goal.invariant-loop-i
invariant-loop-i g l = l.all.items ≡ filter (is_of_kept l.kept) (take l.i l.dependencies)
