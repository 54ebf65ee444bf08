use Rattle.std.proofs.Common.{◌≡◌, ◌++◌, map, take}
use Rattle.model_text.specs.Traces.{logged_at}
use Rattle.model_text.specs.Views.{log_so_far}
use Rattle.model_replies.specs.Steps.{made_unplaced}
use Rattle.model_replies.proofs.steps.push_made.Given as goal

-- the operations so far
abbrev pub invariant-loop-i : goal.invariant-loop-i
invariant-loop-i g l = record {
  steps : l.steps.items ≡ l.fn.steps.items ++ map (logged_at l.log.made.items) (take l.i l.numbers);
  operations : l.operations.items ≡ l.fn.operations.items ++ map (made_unplaced (log_so_far l.log)) (take l.i l.numbers);
}
