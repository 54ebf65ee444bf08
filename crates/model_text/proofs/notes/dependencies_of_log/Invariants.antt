use Rattle.std.proofs.Common.{◌≡◌, map, take}
use Rattle.model_text.specs.Noted.{dependency_of_log}
use Rattle.model_text.specs.Views.{log_so_far}
use Rattle.model_text.proofs.notes.dependencies_of_log.Given as goal

-- the dependencies so far
abbrev pub invariant-loop-i : goal.invariant-loop-i
invariant-loop-i g l = l.all.items ≡ map (dependency_of_log (log_so_far l.log)) (take l.i l.log.dependencies.items)
