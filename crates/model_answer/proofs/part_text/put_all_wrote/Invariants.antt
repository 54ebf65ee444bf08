use Rattle.std.proofs.Common.{◌≡◌, ◌++◌, take}
use Rattle.std.specs.List.{flat_map}
use Rattle.model_text.specs.Views.{log_so_far}
use Rattle.model_answer.specs.PartText.{wrote_line}
use Rattle.model_answer.proofs.part_text.put_all_wrote.Given as goal

-- the lines so far
abbrev pub invariant-loop-i : goal.invariant-loop-i
invariant-loop-i g l = l.text.items ≡ l.fn.text.items ++ flat_map (wrote_line (log_so_far l.log)) (take l.i l.numbers)
