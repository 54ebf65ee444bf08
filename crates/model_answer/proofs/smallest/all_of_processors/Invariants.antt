use Rattle.std.proofs.Common.{◌≡◌, map, take}
use Rattle.model_answer.specs.Parts.{is_of_processor}
use Rattle.model_answer.proofs.smallest.all_of_processors.Given as goal

abbrev pub invariant-loop-n : goal.invariant-loop-n
invariant-loop-n g l = l.kept.items ≡ map is_of_processor (take l.n l.log.made.items)
