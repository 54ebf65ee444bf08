use Rattle.std.proofs.Common.{◌≡◌, take}
use Rattle.trace_answer.specs.Contents.{answers_at}
use Rattle.trace_answer.proofs.contents.answers_at.Given as goal

-- the rows of the services so far
abbrev pub invariant-loop-i : goal.invariant-loop-i
invariant-loop-i g l = l.rows.items ≡ answers_at (take l.i l.services) l.processor
