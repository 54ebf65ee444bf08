use Rattle.model_text.specs.Values.{AreDueBefore}
use Rattle.model_text.proofs.values.replies_of.Given as goal

-- the replies so far are due
abbrev pub invariant-loop-x : goal.invariant-loop-x
invariant-loop-x g l = record {
  due : AreDueBefore l.trace.steps.items l.trace.operations.items l.trace.writes.items l.x;
}
