use Rattle.std.proofs.Common.{◌≡◌, filter, map, take}
use Rattle.model_text.specs.InsideRows.{rows_now}
use Rattle.model_answer.specs.Parts.{is_kept_number}
use Rattle.model_answer.proofs.part.kept_rows.Given as goal

-- the rows so far
abbrev pub invariant-loop-k : goal.invariant-loop-k
invariant-loop-k g l = rows_now l.all ≡ map (filter (is_kept_number l.kept)) (take l.k (rows_now l.rows))
