use Rattle.std.proofs.Common.{◌≡◌, drop}
use Rattle.model_text.specs.Views.{log_so_far}
use Rattle.model_answer.specs.PartText.{has_pair}
use Rattle.model_answer.proofs.part_words.has_pair.Given as goal

-- the first ones aren't
abbrev pub invariant-loop-i : goal.invariant-loop-i
invariant-loop-i g l = has_pair (log_so_far l.log) l.n (drop l.i l.program) ≡ has_pair (log_so_far l.log) l.n l.program
