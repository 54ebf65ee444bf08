use Rattle.std.proofs.Common.{◌≡◌, take, true}
use Rattle.trace_answer.specs.Contents.{all_answered}
use Rattle.trace_answer.proofs.contents.all_answered.Given as goal

-- each so far has an answer
abbrev pub invariant-loop-i : goal.invariant-loop-i
invariant-loop-i l = all_answered (take l.i l.times) ≡ true
