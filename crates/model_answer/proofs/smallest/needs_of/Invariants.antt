use Rattle.std.proofs.Common.{◌≡◌, map}
use Rattle.std.specs.List.{range_with_len}
use Rattle.model_text.specs.Views.{log_so_far}
use Rattle.model_answer.specs.Parts.{needed_in}
use Rattle.model_answer.proofs.smallest.needs_of.Given as goal

abbrev pub invariant-loop-n : goal.invariant-loop-n
invariant-loop-n g l = l.needs.items ≡ map (needed_in (log_so_far l.log)) (range_with_len 0 l.n)
