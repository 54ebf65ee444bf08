use Rattle.std.proofs.Common.{◌≡◌, ◌++◌, map, take}
use Rattle.model_text.specs.Noted.{note_of_log}
use Rattle.model_text.specs.Views.{log_so_far}
use Rattle.model_text.proofs.notes.push_notes.Given as goal

-- the notes so far
abbrev pub invariant-loop-i : goal.invariant-loop-i
invariant-loop-i g l = l.notes.items ≡ l.fn.notes.items ++ map (note_of_log (log_so_far l.log)) (take l.i l.numbers)
