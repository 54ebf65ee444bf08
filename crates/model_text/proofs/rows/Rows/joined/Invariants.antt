use Rattle.std.proofs.Common.{◌≡◌, take}
use Rattle.std.specs.List.{concat}
use Rattle.model_text.specs.InsideRows.{row_lists}
use Rattle.model_text.proofs.rows.Rows.joined.Given as goal

-- the rows so far
abbrev pub invariant-loop-i : goal.invariant-loop-i
invariant-loop-i g l = l.numbers.items ≡ concat (row_lists (take l.i l.self.lists.items))
