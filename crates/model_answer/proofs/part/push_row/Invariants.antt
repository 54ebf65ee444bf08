use Rattle.std.proofs.Common.{◌≡◌, ◌++◌, ◌∷◌, [], filter, take}
use Rattle.model_text.specs.InsideRows.{rows_now}
use Rattle.model_answer.specs.Parts.{is_kept_number}
use Rattle.model_answer.proofs.part.push_row.Given as goal

-- the row so far
abbrev pub invariant-loop-i : goal.invariant-loop-i
invariant-loop-i g l = rows_now l.rows ≡ rows_now l.fn.rows ++ filter (is_kept_number l.kept) (take l.i l.numbers) ∷ []
